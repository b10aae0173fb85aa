-- What std's words for a place say in the model's words.
use Rattle.std.proofs.Common.{◌≡◌, ◌+◌, Bool, true, false, cond, List, [], ◌∷◌, ◌++◌, take, drop, refl, arith}
use Rattle.std.specs.List.{prefix_len}
use Rattle.std.proofs.lemmas.Grind.{common_steps}
use Rattle.model.specs.Sessions.{at_place}

-- A list changed at a place is changed behind the elements that come before.
pub at_place_is : {X : Type 0} (before : X → Bool) (f : List X → List X) (xs : List X)
    → at_place before f xs ≡ take (prefix_len before xs) xs ++ f (drop (prefix_len before xs) xs)
at_place_is before f [] = refl
at_place_is before f (x ∷ xs) =
    elim (before x) as (λ b. cond b (x ∷ at_place before f xs) (f (x ∷ xs))
    ≡ take (cond b (1 + prefix_len before xs) 0) (x ∷ xs) ++ f (drop (cond b (1 + prefix_len before xs) 0) (x ∷ xs))) [
      | true ↦ grind (arith, common_steps, at_place_is before f xs)
      | false ↦ refl
    ]
