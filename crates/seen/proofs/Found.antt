-- Readings in order have one only where it would be put.
use Rattle.std.proofs.Common.{◌≡◌, suc, ◌+◌, Bool, true, false, List, [], ◌∷◌, Some, None, Option, refl, arith}
use Rattle.std.specs.List.{AllByRecursion, prefix_len, slice_get}
use Rattle.std.proofs.lemmas.Bool.Decides.{nat_tests}
use Rattle.visit.specs.declared.Reading.{Reading}
use Rattle.visit.specs.declared.Terms.{Terms}
use Rattle.visit.specs.Order.{RisingBy}
use Rattle.visit.specs.Readings.{reading_before, same_reading}
use Rattle.model.specs.Sessions.{contains}
use Rattle.model.proofs.Common.{split}

-- A reading that comes before another is not the same; nor is one that comes after a reading which neither comes before it nor is the same.
after_differs : (t : Terms) (e x y : Reading) → reading_before t x e ≡ false → reading_before t x y ≡ true → same_reading t e x ≡ false → same_reading t e y ≡ false
unfolding same_reading reading_before
after_differs t e x y p q r = grind (arith, nat_tests)

before_differs : (t : Terms) (e x : Reading) → reading_before t x e ≡ true → same_reading t e x ≡ false
unfolding same_reading reading_before
before_differs t e x p = grind (arith, nat_tests)

-- So behind such a reading it is not found.
none_behind : (t : Terms) (e x : Reading) (ys : List Reading) → reading_before t x e ≡ false → same_reading t e x ≡ false → AllByRecursion (λ y. reading_before t x y ≡ true) ys → contains t e ys ≡ false
none_behind t e x [] p q a = refl
none_behind t e x (y ∷ ys) p q a = simp (after_differs t e x y p a.0 q, none_behind t e x ys p q a.1)

-- The one at the place, if there is one.
abbrev pub same_there : Terms → Reading → Option Reading → Bool
same_there t e None = false
same_there t e (Some x) = same_reading t e x

pub found_there : (t : Terms) (e : Reading) (xs : List Reading) → RisingBy (reading_before t) xs → contains t e xs ≡ same_there t e (slice_get xs (prefix_len (λ x. reading_before t x e) xs))
found_there t e [] s = refl
found_there t e (x ∷ xs) s =
    let n = prefix_len (λ y. reading_before t y e) xs in
    let next : 1 + n ≡ suc n = omega arith in
    split (reading_before t x e)
    (λ o. simp (o, next, before_differs t e x o, found_there t e xs s.1))
    (λ o. split (same_reading t e x) (λ q. simp (o, q)) (λ q. simp (o, q, none_behind t e x xs o q s.0)))
