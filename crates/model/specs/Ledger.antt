-- The ledger: lines by card and day.
use Rattle.std.specs.Prelude.{cond, List, [], ◌∷◌, ◌==◌}
use Rattle.visit.specs.declared.Line.{Line}
use Rattle.visit.specs.declared.Terms.{Terms}
use Rattle.visit.specs.declared.Visit.{Visit}
use Rattle.visit.specs.Lines.{line_before, line_minus, line_of, line_plus, same_key}
use Rattle.model.specs.Sessions.{at_place}

-- A line put to the front of others: its share goes to the first if that has its key, else it stands before it.
abbrev pub add_here : Terms → Line → List Line → List Line
add_here t l [] = l ∷ []
add_here t l (x ∷ xs) = cond (same_key t x l) (line_plus x l ∷ xs) (l ∷ x ∷ xs)

-- A line put to a ledger: lines before its key are passed.
abbrev pub add_line : Terms → Line → List Line → List Line
add_line t l xs = at_place (λ x. line_before t x l) (add_here t l) xs

-- A line taken from a ledger: from the first line of its key, which goes if it has no more visits. No such line, no change.
abbrev pub take_line : Terms → Line → List Line → List Line
take_line t l [] = []
take_line t l (x ∷ xs) = cond (same_key t x l) (cond (x.visits == l.visits) xs (line_minus x l ∷ xs)) (x ∷ take_line t l xs)

-- Visits added to the ledger or taken from it, one after the other.
abbrev pub add_visits : Terms → List Visit → List Line → List Line
add_visits t [] ls = ls
add_visits t (v ∷ vs) ls = add_visits t vs (add_line t (line_of t v) ls)

abbrev pub take_visits : Terms → List Visit → List Line → List Line
take_visits t [] ls = ls
take_visits t (v ∷ vs) ls = take_visits t vs (take_line t (line_of t v) ls)

-- The ledger of these visits.
abbrev pub totals : Terms → List Visit → List Line
totals t vs = add_visits t vs []
