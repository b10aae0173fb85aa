-- A table cut into parts, and the rows of each.
use Rattle.std.proofs.Common.{◌≡◌, ℕ, zero, suc, ◌+◌, ◌-◌, ◌*◌, ◌<◌, ◌≤◌, List, [], ◌∷◌, ◌++◌, length, get_or, take, drop, sym, refl, ap, ◌∙◌, suc-mul, add_comm, suc-add, zero-add, zero-mul, arith, take-add}
use Rattle.std.proofs.lemmas.List.{append_assoc, drop-append-le, drop_at, drop-drop, length-append, length-drop, length-take-le, take-append-drop, take-append-le, take_at}
use Rattle.rows.specs.Rows.{Laws, cells_of, rows_in}

-- What holds of any reader.
module _ {R : Type 0} (w : ℕ) (f : List ℕ → R) where
  pub length_rows : (n : ℕ) (xs : List ℕ) → length (rows_in w f n xs) ≡ n
  length_rows zero xs = refl
  length_rows (suc n) xs = ap suc (length_rows n (drop w xs))

  pub rows_first : (n : ℕ) (xs : List ℕ) → 0 < n → rows_in w f n xs ≡ f xs ∷ rows_in w f (n - 1) (drop w xs)
  rows_first zero xs h = absurd (omega arith)
  rows_first (suc n) xs h =
      let one : suc n - 1 ≡ n = omega arith in
      rw one

  -- The rows behind one row begin where it ends.
  pub drop_row : (m : ℕ) (xs : List ℕ) → drop (m * w) (drop w xs) ≡ drop (suc m * w) xs
  drop_row m xs = rw (drop-drop (m * w) w xs, suc-mul m w, add_comm w (m * w))

  pub rows_split : (m n : ℕ) (xs : List ℕ) → rows_in w f (m + n) xs ≡ rows_in w f m xs ++ rows_in w f n (drop (m * w) xs)
  rows_split zero n xs = rw (zero-add n, zero-mul w)
  rows_split (suc m) n xs = rw (suc-add m n, rows_split m n (drop w xs), drop_row m xs)

  pub take_rows : (m n : ℕ) (xs : List ℕ) → m ≤ n → take m (rows_in w f n xs) ≡ rows_in w f m xs
  take_rows m n xs h =
      let whole : n ≡ m + (n - m) = omega arith in
      rw (whole, rows_split m (n - m) xs) (take_at (rows_in w f m xs) _ m (length_rows m xs))

  pub drop_rows : (m n : ℕ) (xs : List ℕ) → m ≤ n → drop m (rows_in w f n xs) ≡ rows_in w f (n - m) (drop (m * w) xs)
  drop_rows m n xs h =
      let whole : m + (n - m) ≡ n = omega arith in
      sym (ap (λ k. drop m (rows_in w f k xs)) whole) ∙ rw (rows_split m (n - m) xs) (drop_at (rows_in w f m xs) _ m (length_rows m xs))

  pub get_d_rows : (i n : ℕ) (xs : List ℕ) (d : R) → i < n → get_or (rows_in w f n xs) i d ≡ f (drop (i * w) xs)
  get_d_rows i zero xs d h = absurd (omega arith)
  get_d_rows zero (suc n) xs d h = rw (zero-mul w)
  get_d_rows (suc i) (suc n) xs d h = get_d_rows i n (drop w xs) d (omega arith) ∙ ap f (drop_row i xs)

-- What the laws of a row add.
module _ {R : Type 0} {w : ℕ} {made : List ℕ → R} {cells : R → List ℕ} (laws : Laws w made cells) where
  -- Only the first w numbers are read.
  pub front : (p q : List ℕ) → w ≤ length p → made (p ++ q) ≡ made p
  front p q h =
      let same : cells (made (p ++ q)) ≡ take w p = laws.back (p ++ q) (simp length-append (omega arith)) ∙ take-append-le w p q h in
      sym (laws.reads (made (p ++ q)) (drop w p)) ∙ ap made (ap (λ l. l ++ drop w p) same ∙ take-append-drop w p)

  pub rows_front : (m : ℕ) (p q : List ℕ) → m * w ≤ length p → rows_in w made m (p ++ q) ≡ rows_in w made m p
  rows_front zero p q h = refl
  rows_front (suc m) p q h =
      let long : m * w + w ≤ length p = rw suc-mul at h in
      let first : w ≤ length p = omega arith in
      let left' : m * w ≤ length (drop w p) = simp length-drop (omega arith) in
      rw (front p q first, drop-append-le w p q first, rows_front m (drop w p) q left')

  pub rows_taken : (m n : ℕ) (xs : List ℕ) → m * w ≤ n → n ≤ length xs → rows_in w made m (take n xs) ≡ rows_in w made m xs
  rows_taken m n xs h k =
      sym (rows_front m (take n xs) (drop n xs) (rw (length-take-le n xs k) h)) ∙ ap (rows_in w made m) (take-append-drop n xs)

  pub rows_append : (m n : ℕ) (p q : List ℕ) → length p ≡ m * w → rows_in w made (m + n) (p ++ q) ≡ rows_in w made m p ++ rows_in w made n q
  rows_append m n p q e =
      let long : m * w ≤ length p = omega arith in
      rows_split w made m n (p ++ q) ∙ rw (rows_front m p q long, drop_at p q (m * w) e)

  pub rows_cons : (n : ℕ) (r : R) (q : List ℕ) → rows_in w made (suc n) (cells r ++ q) ≡ r ∷ rows_in w made n q
  rows_cons n r q = rw (laws.reads r q, drop_at (cells r) q w (laws.long r))

  -- Rows that are written are read again, and numbers that are read are written again.
  pub rows_of_cells : (rs : List R) (q : List ℕ) → rows_in w made (length rs) (cells_of cells rs ++ q) ≡ rs
  rows_of_cells [] q = refl
  rows_of_cells (r ∷ rs) q =
      rw (append_assoc (cells r) (cells_of cells rs) q) (rows_cons (length rs) r (cells_of cells rs ++ q) ∙ ap (λ l. r ∷ l) (rows_of_cells rs q))

  pub cells_of_rows : (n : ℕ) (xs : List ℕ) → n * w ≤ length xs → cells_of cells (rows_in w made n xs) ≡ take (n * w) xs
  cells_of_rows zero xs h = rw (zero-mul w)
  cells_of_rows (suc n) xs h =
      let long : n * w + w ≤ length xs = rw suc-mul at h in
      let first : w ≤ length xs = omega arith in
      let behind : n * w ≤ length (drop w xs) = simp length-drop (omega arith) in
      rw (suc-mul n w, add_comm (n * w) w, take-add w (n * w) xs, laws.back xs first, cells_of_rows n (drop w xs) behind)
