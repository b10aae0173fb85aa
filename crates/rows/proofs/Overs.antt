-- The first number over its limit, row by row.
use Rattle.std.proofs.Common.{◌≡◌, ℕ, zero, suc, ◌+◌, ◌-◌, ◌*◌, ◌<◌, ◌≤◌, true, false, cond, List, [], ◌∷◌, ◌++◌, length, take, drop, Some, None, Option, sym, refl, ap, ◌∙◌, add-zero, add_assoc, suc-mul, add-one, arith}
use Rattle.std.specs.Option.{option_map}
use Rattle.std.specs.List.{AllByRecursion, position_from, repeat, zip}
use Rattle.std.proofs.lemmas.List.{drop-drop, length-drop, take-append-drop}
use Rattle.rows.specs.Limits.{first_over, over}
use Rattle.rows.specs.Rows.{Laws, rows_in}
use Rattle.rows.proofs.Products.{row_ends}

abbrev pub or_else : {X : Type 0} → Option X → Option X → Option X
or_else None o = o
or_else (Some x) o = Some x

pub none_first : {X : Type 0} (o u : Option X) → or_else o u ≡ None → o ≡ None
none_first None u e = refl
none_first (Some x) u e = e

pub none_second : {X : Type 0} (o u : Option X) → or_else o u ≡ None → u ≡ None
none_second None u e = e
none_second (Some x) u e = absurd (let z : ◌≡◌ {A = ℕ} 0 1 = cc in omega arith)

pub mapped_none : {X Y : Type 0} (f : X → Y) (o : Option X) → option_map f o ≡ None → o ≡ None
mapped_none f None e = refl
mapped_none f (Some x) e = absurd (let z : ◌≡◌ {A = ℕ} 0 1 = cc in omega arith)

pub over_shift : (i j : ℕ) (ls : List (Option ℕ)) (xs : List ℕ) → first_over (i + j) ls xs ≡ option_map (λ k. i + k) (first_over j ls xs)
over_shift i j [] xs = refl
over_shift i j (l ∷ ls) [] = refl
over_shift i j (l ∷ ls) (x ∷ xs) =
    elim (over l x) as (λ b. cond b (Some (i + j)) (first_over (i + j + 1) ls xs) ≡ option_map (λ k. i + k) (cond b (Some j) (first_over (j + 1) ls xs))) [
      | true ↦ refl
      | false ↦ rw (add_assoc i j 1) (over_shift i (j + 1) ls xs)
    ]

-- Numbers and limits side by side.
pub over_zip : (i : ℕ) (ls : List (Option ℕ)) (xs : List ℕ) → position_from (λ p. over p.1 p.0) i (zip xs ls) ≡ first_over i ls xs
over_zip i [] [] = refl
over_zip i [] (x ∷ xs) = refl
over_zip i (l ∷ ls) [] = refl
over_zip i (l ∷ ls) (x ∷ xs) = ap (cond (over l x) (Some i)) (over_zip (i + 1) ls xs)

-- Numbers behind the limits are not looked at.
pub over_taken : (i : ℕ) (ls : List (Option ℕ)) (xs : List ℕ) → first_over i ls (take (length ls) xs) ≡ first_over i ls xs
over_taken i [] xs = refl
over_taken i (l ∷ ls) [] = refl
over_taken i (l ∷ ls) (x ∷ xs) = ap (cond (over l x) (Some i)) (over_taken (i + 1) ls xs)

-- Of row i no more is read than its numbers. The code holds the width in a variable v of its own, and the limits in one too.
pub over_row : (v w i : ℕ) (ks ls : List (Option ℕ)) (xs : List ℕ) → v ≡ w → ks ≡ ls → length ls ≡ w
    → first_over 0 ks (take (i * v + v - i * v) (drop (i * v) xs)) ≡ first_over 0 ls (drop (i * w) xs)
over_row v w i ks ls xs e same limited =
    let long : i * v + v - i * v ≡ length ls = omega arith in
    rw (long, same, e) (over_taken 0 ls (drop (i * w) xs))

pub over_append : (i : ℕ) (ls ms : List (Option ℕ)) (xs ys : List ℕ) → length ls ≡ length xs
    → first_over i (ls ++ ms) (xs ++ ys) ≡ or_else (first_over i ls xs) (first_over (i + length xs) ms ys)
over_append i [] ms [] ys e = rw (add-zero i)
over_append i [] ms (x ∷ xs) ys e = absurd (omega arith)
over_append i (l ∷ ls) ms [] ys e = absurd (omega arith)
over_append i (l ∷ ls) ms (x ∷ xs) ys e =
    let next : i + suc (length xs) ≡ i + 1 + length xs = omega arith in
    elim (over l x) as (λ b. cond b (Some i) (first_over (i + 1) (ls ++ ms) (xs ++ ys)) ≡ or_else (cond b (Some i) (first_over (i + 1) ls xs)) (first_over (i + suc (length xs)) ms ys)) [
      | true ↦ refl
      | false ↦ rw next (over_append (i + 1) ls ms xs ys (omega arith))
    ]

pub over_within : (i : ℕ) (ls : List (Option ℕ)) (xs : List ℕ) (k : ℕ) → first_over i ls xs ≡ Some k → k < i + length xs
over_within i [] xs k e = absurd (let z : ◌≡◌ {A = ℕ} 0 1 = cc in omega arith)
over_within i (l ∷ ls) [] k e = absurd (let z : ◌≡◌ {A = ℕ} 0 1 = cc in omega arith)
over_within i (l ∷ ls) (x ∷ xs) k h =
    (elim (over l x) as (λ b. cond b (Some i) (first_over (i + 1) ls xs) ≡ Some k → k < i + suc (length xs)) [
      | true ↦ λ e. let same : i ≡ k = cc in omega arith
      | false ↦ λ e. omega (arith, over_within (i + 1) ls xs k e)
    ]) h

pub over_within_limits : (i : ℕ) (ls : List (Option ℕ)) (xs : List ℕ) (k : ℕ) → first_over i ls xs ≡ Some k → k < i + length ls
over_within_limits i [] xs k e = absurd (let z : ◌≡◌ {A = ℕ} 0 1 = cc in omega arith)
over_within_limits i (l ∷ ls) [] k e = absurd (let z : ◌≡◌ {A = ℕ} 0 1 = cc in omega arith)
over_within_limits i (l ∷ ls) (x ∷ xs) k h =
    (elim (over l x) as (λ b. cond b (Some i) (first_over (i + 1) ls xs) ≡ Some k → k < i + suc (length ls)) [
      | true ↦ λ e. let same : i ≡ k = cc in omega arith
      | false ↦ λ e. omega (arith, over_within_limits (i + 1) ls xs k e)
    ]) h

-- What is left to look at before row i of n.
abbrev pub over_from : ℕ → List (Option ℕ) → ℕ → ℕ → List ℕ → Option ℕ
over_from w ls n i xs = first_over (i * w) (repeat (n - i) ls) (drop (i * w) xs)

-- Row by row, where `rest` is what stands from row i on.
pub over_split : (i : ℕ) (ls ms : List (Option ℕ)) (xs : List ℕ) → length ls ≤ length xs
    → first_over i (ls ++ ms) xs ≡ or_else (first_over i ls xs) (first_over (i + length ls) ms (drop (length ls) xs))
over_split i [] ms xs h = rw (add-zero i)
over_split i (l ∷ ls) ms [] h = absurd (omega arith)
over_split i (l ∷ ls) ms (x ∷ xs) h =
    let next : i + suc (length ls) ≡ i + 1 + length ls = omega arith in
    elim (over l x) as (λ b. cond b (Some i) (first_over (i + 1) (ls ++ ms) xs) ≡ or_else (cond b (Some i) (first_over (i + 1) ls xs)) (first_over (i + suc (length ls)) ms (drop (length ls) xs))) [
      | true ↦ refl
      | false ↦ rw next (over_split (i + 1) ls ms xs (omega arith))
    ]

pub over_step : (w : ℕ) (ls : List (Option ℕ)) (n i : ℕ) (xs : List ℕ) → length ls ≡ w → i < n → n * w ≤ length xs
    → over_from w ls n i xs ≡ or_else (option_map (λ k. i * w + k) (first_over 0 ls (drop (i * w) xs))) (over_from w ls n (i + 1) xs)
over_step w ls n i xs limited h fits =
    let ends = row_ends w i n h in
    let room : length ls ≤ length (drop (i * w) xs) = simp length-drop (omega arith) in
    let next : (i + 1) * w ≡ i * w + w = rw (add-one i) (suc-mul i w) in
    let count : n - i ≡ suc (n - (i + 1)) = omega arith in
    let shift : first_over (i * w) ls (drop (i * w) xs) ≡ option_map (λ k. i * w + k) (first_over 0 ls (drop (i * w) xs)) =
    ap (λ k. first_over k ls (drop (i * w) xs)) (sym (add-zero (i * w))) ∙ over_shift (i * w) 0 ls (drop (i * w) xs) in
    rw (next, count)
    (over_split (i * w) ls (repeat (n - (i + 1)) ls) (drop (i * w) xs) room ∙ rw (limited, shift, drop-drop w (i * w) xs))

module _ {R : Type 0} {w : ℕ} {made : List ℕ → R} {cells : R → List ℕ} (laws : Laws w made cells) (ls : List (Option ℕ)) (limited : length ls ≡ w) where
  -- Where no cell of n rows is over its limit, none of a row is.
  pub none_over : (i n : ℕ) (xs : List ℕ) → n * w ≤ length xs → first_over i (repeat n ls) xs ≡ None → AllByRecursion (λ r. first_over 0 ls (cells r) ≡ None) (rows_in w made n xs)
  none_over i zero xs h e = tt
  none_over i (suc n) xs h e =
      let long : n * w + w ≤ length xs = rw suc-mul at h in
      let first : w ≤ length xs = omega arith in
      let behind : n * w ≤ length (drop w xs) = simp length-drop (omega arith) in
      let r = made xs in
      let whole : xs ≡ cells r ++ drop w xs = sym (take-append-drop w xs) ∙ ap (λ l. l ++ drop w xs) (sym (laws.back xs first)) in
      let parts = sym (over_append i ls (repeat n ls) (cells r) (drop w xs) (limited ∙ sym (laws.long r))) ∙ ap (first_over i (ls ++ repeat n ls)) (sym whole) ∙ e in
      let shift = ap (λ k. first_over k ls (cells r)) (sym (add-zero i)) ∙ over_shift i 0 ls (cells r) in (
        mapped_none (λ k. i + k) (first_over 0 ls (cells r)) (sym shift ∙ none_first (first_over i ls (cells r)) (first_over (i + length (cells r)) (repeat n ls) (drop w xs)) parts),
        none_over (i + length (cells r)) n (drop w xs) behind (none_second (first_over i ls (cells r)) (first_over (i + length (cells r)) (repeat n ls) (drop w xs)) parts),
      )
