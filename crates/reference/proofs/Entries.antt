-- A line put to a ledger, as the code does it at the place that it found, and what the ledger then sums to.
use Rattle.std.proofs.Common.{◌≡◌, ℕ, ◌+◌, ◌<◌, ◌≤◌, true, false, List, [], ◌∷◌, length, get_or, set, sum_by, sym, refl, add-one, arith}
use Rattle.std.specs.List.{insert, prefix_len}
use Rattle.std.proofs.lemmas.List.{drop_all, drop_more, set_split}
use Rattle.std.proofs.lemmas.List.Sums.{sum_by-cons}
use Rattle.visit.specs.declared.Line.{Line}
use Rattle.visit.specs.declared.Terms.{Terms}
use Rattle.visit.specs.Lines.{line_before, line_plus, same_key}
use Rattle.model.specs.Ledger.{add_here, add_line}
use Rattle.model.proofs.Places.{at_place_is}

-- How many lines come before this one, from the front.
abbrev pub place_of : Terms → Line → List Line → ℕ
place_of t l xs = prefix_len (λ x. line_before t x l) xs

pub add_at_key : (t : Terms) (l : Line) (xs : List Line) (i : ℕ) (x : Line) → i ≡ place_of t l xs → i < length xs → x ≡ get_or xs i x → same_key t x l ≡ true
    → set xs i (line_plus x l) ≡ add_line t l xs
add_at_key t l xs i x at h e q =
    rw (at_place_is (λ y. line_before t y l) (add_here t l) xs, sym at, set_split xs i (line_plus x l) h, drop_more xs i x h) (simp (sym e, q, add-one))

pub add_between : (t : Terms) (l : Line) (xs : List Line) (i : ℕ) (x : Line) → i ≡ place_of t l xs → i < length xs → x ≡ get_or xs i x → same_key t x l ≡ false
    → insert xs i l ≡ add_line t l xs
add_between t l xs i x at h e q = rw (at_place_is (λ y. line_before t y l) (add_here t l) xs, sym at, drop_more xs i x h) (simp (sym e, q))

pub add_last : (t : Terms) (l : Line) (xs : List Line) (i : ℕ) → i ≡ place_of t l xs → length xs ≤ i → insert xs i l ≡ add_line t l xs
add_last t l xs i at h = rw (at_place_is (λ y. line_before t y l) (add_here t l) xs, sym at, drop_all i xs h) refl

-- A number of lines that adds up over them is that of the ledger and of the line put to it.
pub add_shares : (f : Line → ℕ) → ((a b : Line) → f (line_plus a b) ≡ f a + f b) → (t : Terms) (l : Line) (xs : List Line)
    → sum_by f (add_line t l xs) ≡ sum_by f xs + f l
add_shares f plus t l [] = omega (arith, sum_by-cons f l [])
add_shares f plus t l (x ∷ xs) =
    grind (arith, add_shares f plus t l xs, plus x l, sum_by-cons f x xs, sum_by-cons f x (add_line t l xs), sum_by-cons f (line_plus x l) xs, sum_by-cons f l (x ∷ xs))
