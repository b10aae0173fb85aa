-- Ledger lines: a key (card and day) and a share (visits and sum).
use Rattle.std.specs.Prelude.{ℕ, ◌+◌, ◌-◌, ◌/◌, max, Bool, ◌&&◌, ◌||◌, ◌==◌, nat_lt}
use Rattle.visit.specs.declared.Line.{Line}
use Rattle.visit.specs.declared.Terms.{Terms}
use Rattle.visit.specs.declared.Visit.{Visit}

-- The day of a time: its whole part by the day's length. A length of 0, which no store has, counts as 1.
unfoldable pub day_of : Terms → ℕ → ℕ
day_of t time = time / max 1 t.day

-- The line that a visit makes alone: its card, the day on which it began, one visit, its sum.
unfoldable pub line_of : Terms → Visit → Line
line_of t v = record { card = v.card; day = day_of t v.from; visits = 1; sum = v.sum }

-- Two lines have the same key.
unfoldable pub same_key : Terms → Line → Line → Bool
same_key t a b = a.card == b.card && a.day == b.day

-- The order of lines: by card, then by day.
unfoldable pub line_before : Terms → Line → Line → Bool
line_before t a b = nat_lt a.card b.card || (a.card == b.card && nat_lt a.day b.day)

-- A line with the share of another put to it, or taken from it; taking stops at 0.
abbrev pub line_plus : Line → Line → Line
line_plus a b = record { card = a.card; day = a.day; visits = a.visits + b.visits; sum = a.sum + b.sum }

abbrev pub line_minus : Line → Line → Line
line_minus a b = record { card = a.card; day = a.day; visits = a.visits - b.visits; sum = a.sum - b.sum }
