-- Cells cleared and moved.
use Rattle.std.proofs.Common.{◌≡◌, ℕ, ◌+◌, ◌-◌, ◌*◌, ◌≤◌, List, ◌++◌, length, take, drop, replicate, sym, ap, ◌∙◌, arith}
use lib.Seq.{paste}
use Rattle.std.specs.List.{between, copy_within}
use Rattle.std.proofs.lemmas.List.Edits.{drop-paste, take-paste}
use Rattle.std.proofs.lemmas.List.{append_assoc, drop_at, drop-drop, length-append, length-drop, length-replicate, length-take-le, take_at}
use Rattle.rows.specs.Cells.{cleared, closed_up}
use Rattle.rows.specs.Rows.{Laws, rows_in}
use Rattle.rows.proofs.Splits.{rows_front, rows_taken}

-- A write of zs at a, up to e.
pub written_rest : (a e : ℕ) (xs zs : List ℕ) → a ≤ length xs → a + length zs ≡ e → drop e (take a xs ++ (zs ++ drop e xs)) ≡ drop e xs
written_rest a e xs zs h k =
    rw (sym (append_assoc (take a xs) zs (drop e xs)))
    (drop_at (take a xs ++ zs) (drop e xs) e (length-append (take a xs) zs ∙ rw (length-take-le a xs h) k))

pub written_past : (a e f : ℕ) (xs zs : List ℕ) → a ≤ length xs → a + length zs ≡ e → e ≤ f → drop f (take a xs ++ (zs ++ drop e xs)) ≡ drop f xs
written_past a e f xs zs h k o =
    let whole : e + (f - e) ≡ f = omega arith in
    let step : (l : List ℕ) → drop (f - e) (drop e l) ≡ drop f l = λ l. drop-drop (f - e) e l ∙ ap (λ m. drop m l) whole in
    sym (step (take a xs ++ (zs ++ drop e xs))) ∙ ap (drop (f - e)) (written_rest a e xs zs h k) ∙ step xs

pub written_between : (a e : ℕ) (xs zs q : List ℕ) → a ≤ length xs → length zs ≡ e - a → between a e (take a xs ++ (zs ++ q)) ≡ zs
written_between a e xs zs q h k = rw (drop_at (take a xs) (zs ++ q) a (length-take-le a xs h)) (take_at zs q (e - a) k)

module _ (a e : ℕ) (xs : List ℕ) (order : a ≤ e) (within : e ≤ length xs) where
  pub cleared_free : between a e (cleared a e xs) ≡ replicate (e - a) 0
  cleared_free = written_between a e xs (replicate (e - a) 0) (drop e xs) (omega arith) (length-replicate {A = ℕ} (e - a) 0)

  pub cleared_rest : drop e (cleared a e xs) ≡ drop e xs
  cleared_rest =
      let fits : a + length {A = ℕ} (replicate (e - a) 0) ≡ e = rw (length-replicate {A = ℕ} (e - a) 0) (omega arith) in
      written_rest a e xs (replicate (e - a) 0) (omega arith) fits

  pub cleared_rows : {R : Type 0} {w : ℕ} {made : List ℕ → R} {cells : R → List ℕ} (laws : Laws w made cells) (m : ℕ) → m * w ≤ a
      → rows_in w made m (cleared a e xs) ≡ rows_in w made m xs
  cleared_rows laws m h =
      let inside : a ≤ length xs = omega arith in
      rows_front laws m (take a xs) _ (rw (length-take-le a xs inside) h) ∙ rows_taken laws m a xs h inside

-- Cells that have come nearer, and what the last ones left is cleared.
pub closed : (a e w : ℕ) (xs : List ℕ) → a + w ≤ e → e ≤ length xs → (ys : List ℕ) → ys ≡ copy_within xs (a + w) e a → cleared (e - w) e ys ≡ closed_up a e w xs
closed a e w xs order within ys q =
    let s = drop (a + w) xs in
    let count = e - (a + w) in
    let some : count ≤ length s = simp length-drop (omega arith) in
    let start : a ≤ length xs = omega arith in
    let from : e - w ≡ a + count = omega arith in
    let free : e - (a + count) ≡ w = omega arith in
    let end : a + count + w ≡ e = omega arith in
    let behind : drop e (paste xs a s count) ≡ drop e xs =
    ap (λ k. drop k (paste xs a s count)) (sym end) ∙ sym (drop-drop w (a + count) (paste xs a s count)) ∙ ap (drop w) (drop-paste xs a s count start some) ∙ drop-drop w (a + count) xs ∙ ap (λ k. drop k xs) end in
    let front : take (a + count) (paste xs a s count) ≡ take a xs ++ between (a + w) e xs = take-paste xs a s count start some in
    rw (q, from, behind, front, free) (append_assoc (take a xs) (between (a + w) e xs) (replicate w 0 ++ drop e xs))
