-- A filter of rows in place.
use Rattle.std.proofs.Common.{◌≡◌, ℕ, ◌+◌, ◌*◌, ◌<◌, ◌≤◌, Bool, true, false, List, ◌++◌, length, get_or, take, drop, filter, sym, ap, ◌∙◌, arith}
use Rattle.std.proofs.lemmas.List.Filters.{FiltersInPlace, FiltersInPlace-all, FiltersInPlace-more_here, FiltersInPlace-more_no, FiltersInPlace-more_set}
use Rattle.std.specs.List.{between}
use Rattle.rows.specs.Cells.{cleared}
use Rattle.rows.specs.Rows.{Laws, holding, rows_in}
use Rattle.rows.proofs.Holding.{holding_kept}
use Rattle.rows.proofs.Moved.{cleared_free, cleared_rest, cleared_rows, written_past}
use Rattle.rows.proofs.Splits.{length_rows, take_rows}
use Rattle.rows.proofs.Products.{row_ends, rows_rise}
use Rattle.rows.proofs.Written.{rows_put}

-- Of the first i rows of xs those that pass are the first k of ys, and nothing behind the n rows has changed.
abbrev pub Filtered : {R : Type 0} → ℕ → (List ℕ → R) → (R → Bool) → ℕ → List ℕ → List ℕ → ℕ → ℕ → Type 0
Filtered w made p n xs ys k i =
    FiltersInPlace p (rows_in w made n xs) (rows_in w made n ys) k i × (drop (n * w) ys ≡ drop (n * w) xs)

module _ {R : Type 0} {w : ℕ} {made : List ℕ → R} {cells : R → List ℕ} (laws : Laws w made cells) (p : R → Bool) (n : ℕ) (xs ys : List ℕ) (k i : ℕ) (so : Filtered w made p n xs ys k i) where
  pub filtered_all : n ≤ i → rows_in w made k ys ≡ filter p (rows_in w made n xs)
  filtered_all h =
      let long = length_rows w made n xs in
      sym (take_rows w made k n ys (omega (arith, so.0.behind, so.0.within, long))) ∙ FiltersInPlace-all so.0 (rw long h)

  module _ (r : R) (here : i < n) (read : r ≡ get_or (rows_in w made n ys) i r) where
    pub filtered_no : false ≡ p r → Filtered w made p n xs ys k (i + 1)
    filtered_no e = (FiltersInPlace-more_no so.0 (rw (length_rows w made n ys) here) (sym e) read, so.1)

    -- Row i stays where it stands.
    pub filtered_here : true ≡ p r → k ≡ i → Filtered w made p n xs ys (k + 1) (i + 1)
    filtered_here e same = (FiltersInPlace-more_here so.0 (rw (length_rows w made n ys) here) (sym e) read same, so.1)

    -- Row k is written, which lies within the n rows.
    pub filtered_yes : (zs : List ℕ) → true ≡ p r → n * w ≤ length ys → zs ≡ take (k * w) ys ++ (cells r ++ drop (k * w + w) ys)
        → Filtered w made p n xs zs (k + 1) (i + 1)
    filtered_yes zs e fits stored =
        let place : k < n = omega (arith, so.0.behind) in
        let ends = row_ends w k n place in
        let start : k * w ≤ length ys = omega arith in
        let cell : k * w + length (cells r) ≡ k * w + w = rw (laws.long r) in
        let rows = ap (rows_in w made n) stored ∙ rows_put laws k n ys r place (omega arith) in
        let past = ap (drop (n * w)) stored ∙ written_past (k * w) (k * w + w) (n * w) ys (cells r) start cell ends in
        (rw rows (FiltersInPlace-more_set so.0 (rw (length_rows w made n ys) here) (sym e) read), past ∙ so.1)

  -- Once all rows are seen and the cells behind those that passed are cleared.
  module _ (zs : List ℕ) (seen : i ≡ n) (fits : n * w ≤ length ys) (clears : zs ≡ cleared (k * w) (n * w) ys) where
    few : k ≤ n
    few = omega (arith, so.0.behind)

    pub kept_rows : rows_in w made k zs ≡ filter p (rows_in w made n xs)
    kept_rows =
        let order = rows_rise w k n few in
        let all : n ≤ i = omega arith in
        ap (rows_in w made k) clears ∙ cleared_rows (k * w) (n * w) ys order fits laws k (omega arith) ∙ filtered_all all

    pub kept_held : length zs ≡ length ys → zs ≡ holding w cells n (filter p (rows_in w made n xs)) xs
    kept_held long =
        let order = rows_rise w k n few in
        let free = ap (between (k * w) (n * w)) clears ∙ cleared_free (k * w) (n * w) ys order fits in
        let rest = ap (drop (n * w)) clears ∙ cleared_rest (k * w) (n * w) ys order fits ∙ so.1 in
        holding_kept laws n xs zs k _ kept_rows few (omega arith) free rest
