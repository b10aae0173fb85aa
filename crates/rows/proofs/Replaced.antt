-- Rows that give way to others.
use Rattle.std.proofs.Common.{◌≡◌, ℕ, ◌+◌, ◌-◌, ◌*◌, ◌<◌, ◌≤◌, List, [], ◌∷◌, ◌++◌, length, take, drop, replicate, sym, ap, ◌∙◌, add-mul, zero-mul, suc-mul, add-one, add-zero, arith}
use Rattle.std.specs.List.{between, insert}
use Rattle.std.proofs.lemmas.List.Edits.{split_between}
use Rattle.std.proofs.lemmas.List.{append-nil, drop_at, length-take-le, take-append-le, take-take}
use Rattle.rows.specs.Cells.{closed_up, opened, shifted}
use Rattle.rows.specs.Rows.{Laws, cells_of, holding, rows_in}
use Rattle.rows.proofs.Holding.{holding_replaced}
use Rattle.rows.proofs.Products.{rows_rise}

-- A place and the cells behind it up to another.
pub rows_from : (w m n : ℕ) → m ≤ n → m * w + (n - m) * w ≡ n * w
rows_from w m n h =
    let whole : m + (n - m) ≡ n = omega arith in
    sym (add-mul m (n - m) w) ∙ ap (λ k. k * w) whole

module _ (v w n from to : ℕ) (xs ys : List ℕ) (e : v ≡ w) where
  pub shifted_open : from < to → ys ≡ opened (from * v) (n * v) ((to - from) * v) xs → ys ≡ shifted w n from to xs
  shifted_open h q =
      let none : from - to ≡ 0 = omega arith in
      q ∙ rw (e, rows_from w from to (omega arith), sym (add-mul n (to - from) w), none, zero-mul w)

  pub shifted_close : to < from → ys ≡ closed_up (to * v) (n * v) ((from - to) * v) xs → ys ≡ shifted w n from to xs
  shifted_close h q =
      let none : n + (to - from) ≡ n = omega arith in
      q ∙ rw (e, rows_from w to from (omega arith), none)

pub shifted_none : (w n from to : ℕ) (xs : List ℕ) → from ≡ to → from ≤ n → xs ≡ shifted w n from to xs
shifted_none w n from to xs same h =
    let none : from - to ≡ 0 = omega arith in
    let all : n + (to - from) ≡ n = omega arith in
    rw (none, all, zero-mul w, sym same) (split_between xs (from * w) (n * w) (rows_rise w from n h))

pub shifted_by : (w n at gone k : ℕ) (xs : List ℕ) → shifted w n (at + gone) (at + k) xs
    ≡ take ((at + k) * w) xs ++ (between ((at + gone) * w) (n * w) xs ++ (replicate ((gone - k) * w) 0 ++ drop ((n + (k - gone)) * w) xs))
shifted_by w n at gone k xs =
    let fewer : at + gone - (at + k) ≡ gone - k = omega arith in
    let more : at + k - (at + gone) ≡ k - gone = omega arith in
    rw (fewer, more)

-- A write of zs from a up to b, where the cells behind b are others.
pub front_written : (a b : ℕ) (xs ys zs q : List ℕ) → a ≤ b → b ≤ length xs → ys ≡ take b xs ++ q → take a ys ++ (zs ++ drop b ys) ≡ take a xs ++ (zs ++ q)
front_written a b xs ys zs q h k e =
    let long = length-take-le b xs k in
    let inside : a ≤ length (take b xs) = rw long h in
    rw (e, take-append-le a (take b xs) q inside, take-take a b xs h, drop_at (take b xs) q b long)

module _ {R : Type 0} {w : ℕ} {made : List ℕ → R} {cells : R → List ℕ} (laws : Laws w made cells) (n at : ℕ) (xs ys zs : List ℕ) where
  -- The rows behind make room or come nearer, and rows are written.
  pub held_replaced : (gone : ℕ) (rs : List R) → at + gone ≤ n → (n + (length rs - gone)) * w ≤ length xs → ys ≡ shifted w n (at + gone) (at + length rs) xs
      → zs ≡ take (at * w) ys ++ (cells_of cells rs ++ drop ((at + length rs) * w) ys)
      → zs ≡ holding w cells (n + (length rs - gone)) (take at (rows_in w made n xs) ++ (rs ++ drop (at + gone) (rows_in w made n xs))) xs
  held_replaced gone rs place room moved stored =
      let k = length rs in
      let most = n + (k - gone) in
      let behind = between ((at + gone) * w) (n * w) xs ++ (replicate ((gone - k) * w) 0 ++ drop (most * w) xs) in
      let order : at * w ≤ (at + k) * w = rows_rise w at (at + k) (omega arith) in
      let inside : (at + k) * w ≤ most * w = rows_rise w (at + k) most (omega arith) in
      let whole : n * w ≤ most * w = rows_rise w n most (omega arith) in
      stored
      ∙ front_written (at * w) ((at + k) * w) xs ys (cells_of cells rs) behind order (omega arith) (moved ∙ shifted_by w n at gone k xs)
      ∙ holding_replaced laws n at gone rs xs place (omega arith)

  pub held_inserted : (r : R) → at ≤ n → (n + 1) * w ≤ length xs → ys ≡ shifted w n at (at + 1) xs → zs ≡ take (at * w) ys ++ (cells r ++ drop (at * w + w) ys)
      → zs ≡ holding w cells (n + 1) (insert (rows_in w made n xs) at r) xs
  held_inserted r place room moved stored =
      let next : (at + 1) * w ≡ at * w + w = rw (add-one at) (suc-mul at w) in
      let none : at + 0 ≡ at = add-zero at in
      rw none at (held_replaced 0 (r ∷ []))
      place room moved
      (stored ∙ ap (λ l. take (at * w) ys ++ (l ++ drop (at * w + w) ys)) (sym (append-nil (cells r))) ∙ ap (λ m. take (at * w) ys ++ (cells_of cells (r ∷ []) ++ drop m ys)) (sym next))
