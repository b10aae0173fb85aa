-- A visit looked for among others by `==`, as the library's `contains` does.
use Rattle.std.proofs.Common.{◌≡◌, Bool, ◌&&◌, ◌==◌, List, [], ◌∷◌, refl, arith}
use Rattle.std.specs.List.{list_any}
use Rattle.std.proofs.lemmas.Bool.Decides.{nat_tests}
use Rattle.visit.specs.declared.Terms.{Terms}
use Rattle.visit.specs.declared.Visit.{Visit}
use Rattle.visit.specs.Visits.{same_visit}

-- What `==` says of two visits.
abbrev pub equal : Visit → Visit → Bool
equal v w = v.card == w.card && (v.from == w.from && (v.to == w.to && (v.count == w.count && v.sum == w.sum)))

same_turned : (t : Terms) (v w : Visit) → equal w v ≡ same_visit t v w
unfolding same_visit
same_turned t v w = grind (arith, nat_tests)

pub listed : (t : Terms) (v : Visit) (ws : List Visit) → list_any (λ w. equal w v) ws ≡ list_any (same_visit t v) ws
listed t v [] = refl
listed t v (w ∷ ws) = let one = same_turned t v w in let rest = listed t v ws in cc (one, rest)
