-- What every file uses: a case split, filters, looking for an element, and visits that are the same.
use mathlib.Core.Path.{◌≡◌, refl, sym, ap, ◌∙◌, subst}
use mathlib.Core.Bool.{Bool, true, false, not, ◌&&◌, ◌||◌, and_comm}
use mathlib.Core.List.{List, [], ◌∷◌, ◌++◌}
use Prim.Native.Nat.{◌<◌, ◌≤◌}
use native.Mathlib.Omega.{arith}
use lib.ListN.{length}
use Rattle.std.specs.List.{filter, AllByRecursion}
use Rattle.std.proofs.ByRecursion.{All-weaker}
use Rattle.std.proofs.lemmas.List.Filters.{length-filter_both}
use Rattle.std.proofs.lemmas.Bool.{and_right, both_ways, or_right}
use Rattle.std.proofs.lemmas.Bool.Decides.{nat_tests}
pub use Rattle.std.proofs.lemmas.List.Elements.{filter_agree as kept_alike}
use Rattle.visit.specs.declared.Terms.{Terms}
use Rattle.visit.specs.declared.Visit.{Visit}
use Rattle.visit.specs.Visits.{same_visit}
use Rattle.model.specs.Sessions.{some}

-- A case split on a test.
abbrev pub split : {P : Type 0} (b : Bool) → (b ≡ true → P) → (b ≡ false → P) → P
split true f g = f refl
split false f g = g refl

-- Two things that hold of all elements.
pub all_both : {X : Type 0} (P Q : X → Type 0) (xs : List X) → AllByRecursion P xs → AllByRecursion Q xs → AllByRecursion (λ x. P x × Q x) xs
all_both P Q [] a b = tt
all_both P Q (x ∷ xs) a b = ((a.0, b.0), all_both P Q xs a.1 b.1)

-- Filters: tests that agree, on the elements or on all there are, keep the same; a test that none passes keeps none.
pub kept_agree : {X : Type 0} (p q : X → Bool) (xs : List X) → AllByRecursion (λ x. p x ≡ q x) xs → filter p xs ≡ filter q xs
kept_agree p q [] a = refl
kept_agree p q (x ∷ xs) a = simp (a.0, kept_agree p q xs a.1)

pub kept_none : {X : Type 0} (p : X → Bool) (xs : List X) → AllByRecursion (λ x. p x ≡ false) xs → filter p xs ≡ []
kept_none p [] a = refl
kept_none p (x ∷ xs) a = simp (a.0, kept_none p xs a.1)

pub kept_shorter : {X : Type 0} (p : X → Bool) (xs : List X) → length (filter p xs) ≤ length xs
kept_shorter p xs = omega (arith, length-filter_both p (λ x. not (p x)) (λ _. refl) xs)

-- One filter after another is one filter, so their order does not matter.
pub kept_twice : {X : Type 0} (p q : X → Bool) (xs : List X) → filter p (filter q xs) ≡ filter (λ x. q x && p x) xs
kept_twice p q [] = refl
kept_twice p q (x ∷ xs) = grind (arith, kept_twice p q xs)

pub kept_commute : {X : Type 0} (p q : X → Bool) (xs : List X) → filter p (filter q xs) ≡ filter q (filter p xs)
kept_commute p q xs = kept_twice p q xs ∙ kept_alike (λ x. q x && p x) (λ x. p x && q x) (λ x. and_comm (q x) (p x)) xs ∙ sym (kept_twice q p xs)

-- Looking for an element in lists that are put together.
pub some_append : {X : Type 0} (p : X → Bool) (xs ys : List X) → some p (xs ++ ys) ≡ (some p xs || some p ys)
some_append p [] ys = refl
some_append p (x ∷ xs) ys = grind (arith, some_append p xs ys)

-- Visits of the same parts are one, so visits that are the same are.

pub same_parts : (v w : Visit) → v.card ≡ w.card → v.from ≡ w.from → v.to ≡ w.to → v.count ≡ w.count → v.sum ≡ w.sum → v ≡ w
same_parts v w c f l n s = grind arith

pub same_visits : (t : Terms) (v w : Visit) → same_visit t v w ≡ true → v ≡ w
unfolding same_visit
same_visits t v w h = grind arith

pub same_itself : (t : Terms) (v : Visit) → same_visit t v v ≡ true
unfolding same_visit
same_itself t v = grind arith

-- A visit differs from one that has more readings.
pub fewer_differs : (t : Terms) (z v : Visit) → v.count < z.count → (same_visit t v z ≡ false) × (same_visit t z v ≡ false)
unfolding same_visit
fewer_differs t z v h = (grind (arith, nat_tests), grind (arith, nat_tests))

-- A visit is in a list or absent from it.
abbrev pub In : Terms → List Visit → Visit → Type 0
In t ws v = some (same_visit t v) ws ≡ true

abbrev pub Absent : Terms → List Visit → Visit → Type 0
Absent t ws v = some (same_visit t v) ws ≡ false

pub in_more : (t : Terms) (v : Visit) (vs : List Visit) (w : Visit) → In t vs w → In t (v ∷ vs) w
in_more t v vs w h = or_right (same_visit t w v) (some (same_visit t w) vs) h

pub all_in : (t : Terms) (vs : List Visit) → AllByRecursion (In t vs) vs
all_in t [] = tt
all_in t (v ∷ vs) = (simp (same_itself t v), All-weaker (In t vs) (In t (v ∷ vs)) (in_more t v vs) vs (all_in t vs))

-- What holds of all in a list holds of a visit in it.
pub all_some : (t : Terms) (P : Visit → Type 0) (v : Visit) (ws : List Visit) → AllByRecursion P ws → In t ws v → P v
all_some t P v [] a h = absurd (both_ways false refl h)
all_some t P v (w ∷ ws) a h =
    split (same_visit t v w) (λ o. subst P (sym (same_visits t v w o)) a.0) (λ o. all_some t P v ws a.1 (sym (ap (λ (b : Bool). b || some (same_visit t v) ws) o) ∙ h))

-- A visit is among those that pass a test if it passes and is among all.
pub some_kept : (t : Terms) (p : Visit → Bool) (v : Visit) (ws : List Visit) → some (same_visit t v) (filter p ws) ≡ (p v && some (same_visit t v) ws)
some_kept t p v [] = split (p v) (λ o. simp o) (λ o. simp o)
some_kept t p v (w ∷ ws) = grind (arith, some_kept t p v ws, same_visits)

pub absent_kept : (t : Terms) (p : Visit → Bool) (v : Visit) (ws : List Visit) → Absent t ws v → Absent t (filter p ws) v
absent_kept t p v ws h = some_kept t p v ws ∙ and_right (p v) (some (same_visit t v) ws) h
