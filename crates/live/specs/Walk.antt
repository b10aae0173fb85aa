-- Merging a visit into others, part by part: which it takes in, which are left, what it becomes, and its place among those left.
use Rattle.std.specs.Prelude.{ℕ, ◌+◌, cond, List, [], ◌∷◌, length}
use Rattle.visit.specs.declared.Terms.{Terms}
use Rattle.visit.specs.declared.Visit.{Visit}
use Rattle.visit.specs.Visits.{merged, near, visit_before}
use Rattle.live.specs.declared.merging.Placed.{Placed}

abbrev pub taken_in : Terms → Visit → List Visit → List Visit
taken_in t v [] = []
taken_in t v (w ∷ ws) = cond (near t v w) (w ∷ taken_in t (merged v w) ws) (cond (visit_before t w v) (taken_in t v ws) [])

abbrev pub left_over : Terms → Visit → List Visit → List Visit
left_over t v [] = []
left_over t v (w ∷ ws) = cond (near t v w) (left_over t (merged v w) ws) (cond (visit_before t w v) (w ∷ left_over t v ws) (w ∷ ws))

abbrev pub became : Terms → Visit → List Visit → Visit
became t v [] = v
became t v (w ∷ ws) = cond (near t v w) (became t (merged v w) ws) (cond (visit_before t w v) (became t v ws) v)

abbrev pub place_of : Terms → Visit → List Visit → ℕ
place_of t v [] = 0
place_of t v (w ∷ ws) = cond (near t v w) (place_of t (merged v w) ws) (cond (visit_before t w v) (1 + place_of t v ws) 0)

-- What the code hands on of it.
abbrev pub placed_of : Terms → Visit → List Visit → Placed
placed_of t v vs = record { visit = became t v vs; at = place_of t v vs; others = length (left_over t v vs) }
