-- One row of a table, read and written.
use Rattle.std.proofs.Common.{◌≡◌, ℕ, suc, ◌+◌, ◌-◌, ◌*◌, ◌<◌, ◌≤◌, List, ◌∷◌, ◌++◌, length, take, drop, set, sym, ap, ◌∙◌, subst, arith}
use Rattle.std.proofs.lemmas.List.{drop-drop, length-take-le, set_at, take_rest}
use Rattle.rows.specs.Rows.{Laws, rows_in}
use Rattle.rows.proofs.Splits.{length_rows, rows_append, rows_cons, rows_split, rows_taken}

-- The code holds the width in a variable v of its own.
pub part_read : (v w i : ℕ) (xs : List ℕ) → v ≡ w → take (length xs - i * v) (drop (i * v) xs) ≡ drop (i * w) xs
part_read v w i xs e = rw e (take_rest xs (i * w))

module _ {R : Type 0} {w : ℕ} {made : List ℕ → R} {cells : R → List ℕ} (laws : Laws w made cells) where
  -- The rows before row i, row i, and those behind it.
  pub rows_around : (i m : ℕ) (xs : List ℕ) → rows_in w made (i + suc m) xs ≡ rows_in w made i xs ++ made (drop (i * w) xs) ∷ rows_in w made m (drop (i * w + w) xs)
  rows_around i m xs = rows_split w made i (suc m) xs ∙ rw (drop-drop w (i * w) xs)

  pub rows_with : (i m : ℕ) (xs : List ℕ) (r : R) (q : List ℕ) → i * w ≤ length xs
      → rows_in w made (i + suc m) (take (i * w) xs ++ (cells r ++ q)) ≡ rows_in w made i xs ++ r ∷ rows_in w made m q
  rows_with i m xs r q h =
      let same : i * w ≤ i * w = omega arith in
      rows_append laws i (suc m) (take (i * w) xs) (cells r ++ q) (length-take-le (i * w) xs h)
      ∙ rw (rows_taken laws i (i * w) xs same h) (ap (λ l. rows_in w made i xs ++ l) (rows_cons laws m r q))

  pub rows_put : (i n : ℕ) (xs : List ℕ) (r : R) → i < n → i * w + w ≤ length xs
      → rows_in w made n (take (i * w) xs ++ (cells r ++ drop (i * w + w) xs)) ≡ set (rows_in w made n xs) i r
  rows_put i n xs r h k =
      let m = n - suc i in
      let whole : i + suc m ≡ n = omega arith in
      subst (λ (j : ℕ). rows_in w made j (take (i * w) xs ++ (cells r ++ drop (i * w + w) xs)) ≡ set (rows_in w made j xs) i r) whole
      (rows_with i m xs r (drop (i * w + w) xs) (omega arith)
      ∙ sym (ap (λ l. set l i r) (rows_around i m xs) ∙ set_at (rows_in w made i xs) _ _ r i (length_rows w made i xs)))
