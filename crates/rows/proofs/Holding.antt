-- A table by the rows that it holds.
use Rattle.std.proofs.Common.{◌≡◌, ℕ, ◌+◌, ◌-◌, ◌*◌, ◌≤◌, max, List, ◌++◌, length, take, drop, replicate, sym, refl, ap, ◌∙◌, ⊎_elim, add-mul, zero-mul, arith}
use Rattle.std.proofs.lemmas.List.{append_assoc, drop_at, drop-drop, length-append, length-drop, length-replicate, length-take-le, replicate-append-replicate, take-append-drop}
use Rattle.std.proofs.lemmas.Bool.{cases_lt}
use Rattle.std.proofs.lemmas.Grind.{flat_map-append}
use Rattle.std.proofs.lemmas.List.Edits.{length-between}
use Rattle.std.specs.List.{between}
use Rattle.rows.specs.Cells.{closed_up}
use Rattle.rows.specs.Rows.{Laws, cells_of, holding, rows_in}
use Rattle.rows.proofs.Copying.{length_cells}
use Rattle.rows.proofs.Moved.{written_rest}
use Rattle.rows.proofs.Products.{rows_left, rows_rise}
use Rattle.rows.proofs.Splits.{cells_of_rows, drop_rows, length_rows, rows_of_cells, take_rows}

-- Behind a row that was put in, and behind rows that have come nearer.
pub inserted_rest : (a e w : ℕ) (xs zs : List ℕ) → a ≤ e → e + w ≤ length xs → length zs ≡ w
    → drop (e + w) (take a xs ++ (zs ++ (between a e xs ++ drop (e + w) xs))) ≡ drop (e + w) xs
inserted_rest a e w xs zs order within long =
    let moved : length (between a e xs) ≡ e - a = length-between xs a e (omega arith) in
    let fits : a + length (zs ++ between a e xs) ≡ e + w = rw (length-append zs (between a e xs), long, moved) (omega arith) in
    rw (sym (append_assoc zs (between a e xs) (drop (e + w) xs))) (written_rest a (e + w) xs (zs ++ between a e xs) (omega arith) fits)

pub removed_rest : (a e w : ℕ) (xs : List ℕ) → a + w ≤ e → e ≤ length xs → drop (e - w) (closed_up a e w xs) ≡ replicate w 0 ++ drop e xs
removed_rest a e w xs h k =
    let front : length (take a xs) ≡ a = length-take-le a xs (omega arith) in
    let middle : length (between (a + w) e xs) ≡ e - (a + w) = length-between xs (a + w) e k in
    ap (drop (e - w)) (sym (append_assoc (take a xs) (between (a + w) e xs) (replicate w 0 ++ drop e xs)))
    ∙ drop_at (take a xs ++ between (a + w) e xs) (replicate w 0 ++ drop e xs) (e - w) (omega (arith, length-append (take a xs) (between (a + w) e xs)))

-- Zeros and what stands behind them, from row k on of those from row j on.
pub zeros_drop : (w j k most : ℕ) (xs : List ℕ) → j ≤ k → j ≤ most
    → drop ((k - j) * w) (replicate ((most - j) * w) 0 ++ drop (most * w) xs) ≡ replicate ((most - k) * w) 0 ++ drop (max most k * w) xs
zeros_drop w j k most xs h o =
    ⊎_elim
    (λ fewer.
    let top : max most k ≡ most = omega arith in
    let whole : (most - j) * w ≡ (k - j) * w + (most - k) * w = ap (λ n. n * w) (let e : most - j ≡ k - j + (most - k) = omega arith in e) ∙ add-mul (k - j) (most - k) w in
    rw (top, whole, sym (replicate-append-replicate {A = ℕ} ((k - j) * w) ((most - k) * w) 0), append_assoc (replicate ((k - j) * w) 0) (replicate ((most - k) * w) 0) (drop (most * w) xs))
    (drop_at (replicate ((k - j) * w) 0) _ ((k - j) * w) (length-replicate {A = ℕ} ((k - j) * w) 0)))
    (λ more.
    let top : max most k ≡ k = omega arith in
    let none : (most - k) * w ≡ 0 = ap (λ n. n * w) (let e : most - k ≡ 0 = omega arith in e) ∙ zero-mul w in
    let whole : (k - j) * w ≡ (most - j) * w + (k - most) * w = ap (λ n. n * w) (let e : k - j ≡ most - j + (k - most) = omega arith in e) ∙ add-mul (most - j) (k - most) w in
    let ends : most * w + (k - most) * w ≡ k * w = sym (add-mul most (k - most) w) ∙ ap (λ n. n * w) (let e : most + (k - most) ≡ k = omega arith in e) in
    rw (top, none, whole, sym (drop-drop ((k - most) * w) ((most - j) * w) (replicate ((most - j) * w) 0 ++ drop (most * w) xs)), drop_at (replicate ((most - j) * w) 0) (drop (most * w) xs) ((most - j) * w) (length-replicate {A = ℕ} ((most - j) * w) 0), drop-drop ((k - most) * w) (most * w) xs, ends))
    (cases_lt k most)

module _ {R : Type 0} {w : ℕ} {made : List ℕ → R} {cells : R → List ℕ} (laws : Laws w made cells) where
  pub holding_rows : (most : ℕ) (rs : List R) (xs : List ℕ) → rows_in w made (length rs) (holding w cells most rs xs) ≡ rs
  holding_rows most rs xs = rows_of_cells laws rs _

  pub held_rows : (n most : ℕ) (rs : List R) (xs ys : List ℕ) → ys ≡ holding w cells most rs xs → n ≡ length rs → rows_in w made n ys ≡ rs
  held_rows n most rs xs ys held many = ap (rows_in w made n) held ∙ ap (λ k. rows_in w made k (holding w cells most rs xs)) many ∙ holding_rows most rs xs

  pub drop_holding : (k most : ℕ) (rs : List R) (xs : List ℕ) → length rs ≤ k → length rs ≤ most
      → drop (k * w) (holding w cells most rs xs) ≡ replicate ((most - k) * w) 0 ++ drop (max most k * w) xs
  drop_holding k most rs xs h o =
      let l = length rs in
      let whole : l * w + (k - l) * w ≡ k * w = sym (add-mul l (k - l) w) ∙ ap (λ n. n * w) (let e : l + (k - l) ≡ k = omega arith in e) in
      let tail = replicate ((most - l) * w) 0 ++ drop (most * w) xs in
      ap (λ n. drop n (cells_of cells rs ++ tail)) (sym whole)
      ∙ sym (drop-drop ((k - l) * w) (l * w) (cells_of cells rs ++ tail))
      ∙ ap (drop ((k - l) * w)) (drop_at (cells_of cells rs) tail (l * w) (length_cells laws rs))
      ∙ zeros_drop w l k most xs h o

  pub length_holding : (most : ℕ) (rs : List R) (xs : List ℕ) → length rs ≤ most → most * w ≤ length xs → length (holding w cells most rs xs) ≡ length xs
  length_holding most rs xs h k =
      let zeros = rows_left w (length rs) most h in
      let rise = rows_rise w (length rs) most h in
      length-append (cells_of cells rs) _
      ∙ rw (length_cells laws rs, length-append (replicate ((most - length rs) * w) 0) (drop (most * w) xs), length-replicate {A = ℕ} ((most - length rs) * w) 0, length-drop (most * w) xs) (omega arith)

  -- One change after another.
  pub holding_again : (m k : ℕ) (rs qs : List R) (xs : List ℕ) → length rs ≤ m → length rs ≤ k → length qs ≤ k
      → holding w cells k qs (holding w cells m rs xs) ≡ holding w cells (max m k) qs xs
  holding_again m k rs qs xs h o q =
      let rest = drop (max m k * w) xs in
      let a = (k - length qs) * w in
      let b = (m - k) * w in
      let total : a + b ≡ (max m k - length qs) * w =
      sym (add-mul (k - length qs) (m - k) w) ∙ ap (λ n. n * w) (let e : k - length qs + (m - k) ≡ max m k - length qs = omega arith in e) in
      ap (λ l. cells_of cells qs ++ (replicate a 0 ++ l)) (drop_holding k m rs xs o h)
      ∙ ap (λ l. cells_of cells qs ++ l) (sym (append_assoc (replicate a 0) (replicate b 0) rest) ∙ ap (λ l. l ++ rest) (replicate-append-replicate a b 0 ∙ ap (λ n. replicate n 0) total))

  -- A table is known by its rows and by what is behind them.
  pub holding_is : (n most : ℕ) (rs : List R) (xs ys : List ℕ) → n * w ≤ length ys → rows_in w made n ys ≡ rs → n ≡ length rs
      → drop (n * w) ys ≡ replicate ((most - n) * w) 0 ++ drop (most * w) xs → ys ≡ holding w cells most rs xs
  holding_is n most rs xs ys fits rows many behind =
      sym (take-append-drop (n * w) ys)
      ∙ ap (λ l. l ++ drop (n * w) ys) (sym (cells_of_rows laws n ys fits) ∙ ap (cells_of cells) rows)
      ∙ ap (λ l. cells_of cells rs ++ l) (behind ∙ ap (λ k. replicate ((most - k) * w) 0 ++ drop (most * w) xs) many)

  -- A table that nobody has changed.
  pub holding_itself : (n : ℕ) (xs : List ℕ) → n * w ≤ length xs → xs ≡ holding w cells n (rows_in w made n xs) xs
  holding_itself n xs within =
      let none : (n - n) * w ≡ 0 = ap (λ k. k * w) (let e : n - n ≡ 0 = omega arith in e) ∙ zero-mul w in
      holding_is n n (rows_in w made n xs) xs xs within refl (sym (length_rows w made n xs)) (rw none)

  -- The table after a filter.
  module _ (n : ℕ) (xs ys : List ℕ) where
    pub holding_kept : (k : ℕ) (rs : List R) → rows_in w made k ys ≡ rs → k ≤ n → n * w ≤ length ys
        → between (k * w) (n * w) ys ≡ replicate (n * w - k * w) 0 → drop (n * w) ys ≡ drop (n * w) xs → ys ≡ holding w cells n rs xs
    holding_kept k rs rows few within free rest =
        let rise = rows_rise w k n few in
        let behind : drop (k * w) ys ≡ replicate ((n - k) * w) 0 ++ drop (n * w) xs =
        sym (take-append-drop (n * w - k * w) (drop (k * w) ys))
        ∙ rw (free, drop-drop (n * w - k * w) (k * w) ys, rows_left w k n few) (ap (λ l. replicate (n * w - k * w) 0 ++ l) (ap (λ m. drop m ys) (let e : k * w + (n * w - k * w) ≡ n * w = omega arith in e) ∙ rest)) in
        holding_is k n rs xs ys (omega arith) rows (sym (length_rows w made k ys) ∙ ap length rows) behind

  -- The table after rows gave way to others.
  pub holding_replaced : (n at gone : ℕ) (rs : List R) (xs : List ℕ) → at + gone ≤ n → n * w ≤ length xs
      → take (at * w) xs ++ (cells_of cells rs ++ (between ((at + gone) * w) (n * w) xs ++ (replicate ((gone - length rs) * w) 0 ++ drop ((n + (length rs - gone)) * w) xs)))
      ≡ holding w cells (n + (length rs - gone)) (take at (rows_in w made n xs) ++ (rs ++ drop (at + gone) (rows_in w made n xs))) xs
  holding_replaced n at gone rs xs place fits =
      let before : at ≤ n = omega arith in
      let rise = rows_rise w at n before in
      let left' = rows_left w (at + gone) n place in
      let start : at * w ≤ length xs = omega arith in
      let room : (n - (at + gone)) * w ≤ length (drop ((at + gone) * w) xs) = simp length-drop (omega arith) in
      let front : cells_of cells (take at (rows_in w made n xs)) ≡ take (at * w) xs = ap (cells_of cells) (take_rows w made at n xs before) ∙ cells_of_rows laws at xs start in
      let back : cells_of cells (drop (at + gone) (rows_in w made n xs)) ≡ between ((at + gone) * w) (n * w) xs =
      ap (cells_of cells) (drop_rows w made (at + gone) n xs place) ∙ cells_of_rows laws (n - (at + gone)) (drop ((at + gone) * w) xs) room ∙ ap (λ k. take k (drop ((at + gone) * w) xs)) left' in
      let front_rows : length (take at (rows_in w made n xs)) ≡ at = length-take-le at (rows_in w made n xs) (rw (length_rows w made n xs) before) in
      let back_rows : length (drop (at + gone) (rows_in w made n xs)) ≡ n - (at + gone) = length-drop (at + gone) (rows_in w made n xs) ∙ ap (λ k. k - (at + gone)) (length_rows w made n xs) in
      let many : n + (length rs - gone) - (at + (length rs + (n - (at + gone)))) ≡ gone - length rs = omega arith in
      let z = replicate ((gone - length rs) * w) 0 ++ drop ((n + (length rs - gone)) * w) xs in
      rw (
        length-append (take at (rows_in w made n xs)) (rs ++ drop (at + gone) (rows_in w made n xs)),
        length-append rs (drop (at + gone) (rows_in w made n xs)),
        front_rows,
        back_rows,
        many,
        flat_map-append cells (take at (rows_in w made n xs)) (rs ++ drop (at + gone) (rows_in w made n xs)),
        flat_map-append cells rs (drop (at + gone) (rows_in w made n xs)),
        front,
        back,
      )
      (sym (append_assoc (take (at * w) xs) (cells_of cells rs ++ between ((at + gone) * w) (n * w) xs) z ∙ ap (λ l. take (at * w) xs ++ l) (append_assoc (cells_of cells rs) (between ((at + gone) * w) (n * w) xs) z)))
