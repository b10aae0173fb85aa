-- Lines in order have one of a key only where a line of it would be put.
use Rattle.std.proofs.Common.{◌≡◌, ℕ, suc, ◌+◌, true, false, cond, List, [], ◌∷◌, Some, None, Option, option_map, refl, ◌∙◌, arith}
use Rattle.std.specs.List.{AllByRecursion, prefix_len, slice_get}
use Rattle.std.proofs.lemmas.Bool.Decides.{nat_tests}
use Rattle.visit.specs.declared.Line.{Line}
use Rattle.visit.specs.declared.Terms.{Terms}
use Rattle.visit.specs.Lines.{line_before, same_key}
use Rattle.visit.specs.Order.{RisingBy}
use Rattle.model.proofs.Common.{split}
use Rattle.ledger.specs.Keys.{first_of_key}

first_none : (t : Terms) (l : Line) → first_of_key t l [] ≡ None
unfolding first_of_key
first_none t l = refl

first_more : (t : Terms) (l x : Line) (xs : List Line) → first_of_key t l (x ∷ xs) ≡ cond (same_key t x l) (Some 0) (option_map suc (first_of_key t l xs))
unfolding first_of_key
first_more t l x xs = grind (arith, nat_tests)

-- A line that comes before another is of another key; so is one behind a line that neither comes before it nor is of its key.
before_differs : (t : Terms) (l x : Line) → line_before t x l ≡ true → same_key t x l ≡ false
unfolding line_before same_key
before_differs t l x p = grind (arith, nat_tests)

after_differs : (t : Terms) (l x y : Line) → line_before t x l ≡ false → same_key t x l ≡ false → line_before t x y ≡ true → same_key t y l ≡ false
unfolding line_before same_key
after_differs t l x y p q r = grind (arith, nat_tests)

-- So behind such a line there is none of the key.
none_behind : (t : Terms) (l x : Line) (ys : List Line) → line_before t x l ≡ false → same_key t x l ≡ false → AllByRecursion (λ y. line_before t x y ≡ true) ys → first_of_key t l ys ≡ None
none_behind t l x [] p q a = first_none t l
none_behind t l x (y ∷ ys) p q a = first_more t l y ys ∙ simp (after_differs t l x y p q a.0, none_behind t l x ys p q a.1)

-- The place k, if the line there is of the key.
abbrev pub found_at : Terms → Line → ℕ → Option Line → Option ℕ
found_at t l k None = None
found_at t l k (Some x) = cond (same_key t x l) (Some k) None

found_more : (t : Terms) (l : Line) (k : ℕ) (r : Option Line) → option_map suc (found_at t l k r) ≡ found_at t l (suc k) r
found_more t l k None = refl
found_more t l k (Some x) = split (same_key t x l) (λ o. simp o) (λ o. simp o)

pub found_there : (t : Terms) (l : Line) (ls : List Line) → RisingBy (line_before t) ls
    → first_of_key t l ls ≡ found_at t l (prefix_len (λ x. line_before t x l) ls) (slice_get ls (prefix_len (λ x. line_before t x l) ls))
found_there t l [] r = first_none t l
found_there t l (x ∷ xs) r =
    let k = prefix_len (λ y. line_before t y l) xs in
    let next : 1 + k ≡ suc k = omega arith in
    first_more t l x xs ∙ split (line_before t x l)
    (λ o. simp (o, next, before_differs t l x o, found_there t l xs r.1) (found_more t l k (slice_get xs k)))
    (λ o. split (same_key t x l) (λ q. simp (o, q)) (λ q. simp (o, q, none_behind t l x xs o q r.0)))
