-- The row `out`: how many visits are retracted, how many are added, then the visits, the retracted ones first.
use Rattle.std.specs.Prelude.{ℕ, ◌+◌, ◌*◌, List, drop, slice_index}
use Rattle.visit.specs.declared.Visit.{Visit}
use Rattle.rows.specs.Visits.{visit_width, visits_in}

-- The two counts in front.
abbrev pub out_head : ℕ
out_head = 2

abbrev pub gone_count : List ℕ → ℕ
gone_count xs = slice_index xs 0

abbrev pub new_count : List ℕ → ℕ
new_count xs = slice_index xs 1

-- Where the added visits begin, and where they end.
abbrev pub new_at : List ℕ → ℕ
new_at xs = out_head + gone_count xs * visit_width

abbrev pub out_end : List ℕ → ℕ
out_end xs = new_at xs + new_count xs * visit_width

abbrev pub gone_in : List ℕ → List Visit
gone_in xs = visits_in (gone_count xs) (drop out_head xs)

abbrev pub new_in : List ℕ → List Visit
new_in xs = visits_in (new_count xs) (drop (new_at xs) xs)
