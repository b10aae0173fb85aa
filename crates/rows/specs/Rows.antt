-- Rows of a fixed width in a list of numbers.
use Rattle.std.specs.Prelude.{◌≡◌, ℕ, zero, suc, ◌-◌, ◌*◌, ◌<◌, ◌≤◌, List, [], ◌∷◌, ◌++◌, length, take, drop, replicate}
use Rattle.std.specs.List.{flat_map}

-- The first n rows of w numbers, each read by f.
abbrev pub rows_in : {R : Type 0} → ℕ → (List ℕ → R) → ℕ → List ℕ → List R
rows_in w f zero xs = []
rows_in w f (suc n) xs = f xs ∷ rows_in w f n (drop w xs)

-- The numbers of rows, one row behind the other.
abbrev pub cells_of : {R : Type 0} → (R → List ℕ) → List R → List ℕ
cells_of cells rs = flat_map cells rs

-- The numbers of a table that held xs and now holds the rows rs: behind them 0 up to row `most`, and from there on what stood there before.
abbrev pub holding : {R : Type 0} → ℕ → (R → List ℕ) → ℕ → List R → List ℕ → List ℕ
holding w cells most rs xs = cells_of cells rs ++ (replicate ((most - length rs) * w) 0 ++ drop (most * w) xs)

-- What a kind of row has to keep: its width, which is not 0, and that reading and writing undo one another.
pub record Laws {R : Type 0} (w : ℕ) (made : List ℕ → R) (cells : R → List ℕ) : Type 0 where
  pub some : 0 < w
  pub long : (r : R) → length (cells r) ≡ w
  pub reads : (r : R) (rest : List ℕ) → made (cells r ++ rest) ≡ r
  pub back : (xs : List ℕ) → w ≤ length xs → cells (made xs) ≡ take w xs
