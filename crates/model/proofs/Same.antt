-- Lists in a strict order: what is in them says what they are.
use Rattle.std.proofs.Common.{◌≡◌, ℕ, zero, suc, ◌<◌, Bool, true, ◌⊎◌, List, [], ◌∷◌, length, get_or, Decides, filter, sym, refl, ap, inl, inr, arith}
use Rattle.std.specs.List.{HoldsAt, ContainsAt as Has, AllByRecursion}
use Rattle.std.proofs.ByRecursion.{All-get_or, all-has, all_kept_by}
use Rattle.std.proofs.lemmas.Bool.Decides.{Decides-by_or, nat_tests}
use Rattle.visit.specs.declared.Reading.{Reading}
use Rattle.visit.specs.declared.Terms.{Terms}
use Rattle.visit.specs.Order.{RisingBy}
use Rattle.visit.specs.Readings.{reading_before}
use Rattle.model.specs.Order.{AnyOrder}
use Rattle.model.specs.Reference.{Reference, after, closed_of, empty}
use Rattle.model.specs.Sessions.{some}
use Rattle.model.proofs.Order.{reference_sorted}

pub rising_at : {X : Type 0} (before : X → X → Bool) (xs : List X) → RisingBy before xs → (i j : ℕ) (d : X) → i < j → j < length xs → before (get_or xs i d) (get_or xs j d) ≡ true
rising_at before [] r i j d l h = absurd (omega arith)
rising_at before (x ∷ xs) r i zero d l h = absurd (omega arith)
rising_at before (x ∷ xs) r zero (suc j) d l h = grind (arith, nat_tests, All-get_or)
rising_at before (x ∷ xs) r (suc i) (suc j) d l h = rising_at before xs r.1 i j d (omega arith) (omega arith)

-- What a list has: its first, what the rest has, and nothing else.
pub has_here : {X : Type 0} (x : X) (xs : List X) → Has (x ∷ xs) x
has_here x xs = (0, omega arith, λ d. refl)

pub has_there : {X : Type 0} (x : X) (xs : List X) (z : X) → Has xs z → Has (x ∷ xs) z
has_there x xs z h = (suc h.0, omega arith, λ d. h.2 d)

has_cases_at : {X : Type 0} (x : X) (xs : List X) (z : X) (k : ℕ) → k < length (x ∷ xs) → HoldsAt (λ y. y ≡ z) (x ∷ xs) k → (x ≡ z) ⊎ Has xs z
has_cases_at x xs z zero l e = inl (e z)
has_cases_at x xs z (suc k) l e = inr (k, omega arith, λ d. e d)

pub has_cases : {X : Type 0} (x : X) (xs : List X) (z : X) → Has (x ∷ xs) z → (x ≡ z) ⊎ Has xs z
has_cases x xs z h = has_cases_at x xs z h.0 h.1 h.2

pub has_none : {X : Type 0} (z : X) → Has [] z → ⊥
has_none z h = omega arith

-- Whether some element is z is whether the list has z.
pub some_decides : {X : Type 0} (test : X → Bool) (z : X) → ((y : X) → Decides (test y) (y ≡ z)) → (xs : List X) → Decides (some test xs) (Has xs z)
some_decides test z each = Decides-by_or test (λ y. y ≡ z) (some test) each refl (λ _ _. refl)

-- A filter keeps the order.
pub rising_kept : {X : Type 0} (before : X → X → Bool) (p : X → Bool) (xs : List X) → RisingBy before xs → RisingBy before (filter p xs)
rising_kept before p [] r = tt
rising_kept before p (x ∷ xs) r = grind (arith, nat_tests, all_kept_by p (λ y. before x y ≡ true) xs r.0, rising_kept before p xs r.1)

-- Two lists that rise and have the same members are one.
either_same : {X : Type 0} (before : X → X → Bool) (strict : (x y : X) → before x y ≡ true → before y x ≡ true → ⊥) (x y : X) (xs ys : List X)
    → AllByRecursion (λ z. before x z ≡ true) xs → AllByRecursion (λ z. before y z ≡ true) ys → Has (y ∷ ys) x → Has (x ∷ xs) y → x ≡ y
either_same before strict x y xs ys a b h g =
    elim (has_cases y ys x h) [
      | inl e ↦ sym e
      | inr i ↦ elim (has_cases x xs y g) [
        | inl e ↦ e
        | inr j ↦ absurd (strict y x (all-has (λ z. before y z ≡ true) ys x b i) (all-has (λ z. before x z ≡ true) xs y a j))
      ]
    ]

rest_has : {X : Type 0} (before : X → X → Bool) (strict : (x y : X) → before x y ≡ true → before y x ≡ true → ⊥) (x y : X) (xs ys : List X)
    → AllByRecursion (λ z. before x z ≡ true) xs → x ≡ y → ((z : X) → Has (x ∷ xs) z → Has (y ∷ ys) z) → (z : X) → Has xs z → Has ys z
rest_has before strict x y xs ys a e f z h = grind (arith, nat_tests, has_cases y ys z (f z (has_there x xs z h)), has_there x xs z h, all-has (λ w. before x w ≡ true) xs z a h)

pub same_members : {X : Type 0} (before : X → X → Bool) (strict : (x y : X) → before x y ≡ true → before y x ≡ true → ⊥) (xs ys : List X)
    → RisingBy before xs → RisingBy before ys → ((z : X) → Has xs z → Has ys z) → ((z : X) → Has ys z → Has xs z) → xs ≡ ys
same_members before strict [] [] r s f g = refl
same_members before strict [] (y ∷ ys) r s f g = absurd (has_none y (g y (has_here y ys)))
same_members before strict (x ∷ xs) [] r s f g = absurd (has_none x (f x (has_here x xs)))
same_members before strict (x ∷ xs) (y ∷ ys) r s f g =
    let e = either_same before strict x y xs ys r.0 s.0 (f x (has_here x xs)) (g y (has_here y ys)) in
    let q = same_members before strict xs ys r.1 s.1
    (rest_has before strict x y xs ys r.0 e f) (rest_has before strict y x ys xs s.0 (sym e) g) in
    cc (e, q)

-- No two readings come each before the other.

pub reading_strict : (t : Terms) (x y : Reading) → reading_before t x y ≡ true → reading_before t y x ≡ true → ⊥
unfolding reading_before
reading_strict t x y p q = grind (arith, nat_tests)

-- The order in which readings come does not matter.
state_of_parts : (k l : Reference) → k.readings ≡ l.readings → k.watermark ≡ l.watermark → k ≡ l
state_of_parts k l p q = grind (arith, nat_tests)

pub any_order : AnyOrder
any_order t cs ds h =
    let p : (after t empty cs).readings ≡ (after t empty ds).readings =
    same_members (reading_before t) (reading_strict t) (after t empty cs).readings (after t empty ds).readings
    (reference_sorted t cs) (reference_sorted t ds)
    h.here h.there in
    let e = state_of_parts (after t empty cs) (after t empty ds) p h.watermark in
    record { readings = p; closed = ap (λ (k : Reference). closed_of t k) e; whole = e }
