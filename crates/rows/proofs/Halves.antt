-- The place of an item among rows that are in order.
use Rattle.std.proofs.Common.{◌≡◌, ℕ, suc, ◌+◌, ◌-◌, ◌<◌, ◌≤◌, Bool, true, false, cond, List, [], ◌∷◌, length, get_or, drop, Decides, sym, refl, ap, ◌∙◌, arith}
use Rattle.std.specs.List.{AllByRecursion, prefix_len}
use Rattle.std.proofs.ByRecursion.{All-get_or, All-weaker}
use Rattle.std.proofs.lemmas.List.{get_or-drop, length-drop}
use Rattle.std.proofs.lemmas.List.Sums.{prefix_len-le-length, prefix_len_passes}
use Rattle.rows.specs.declared.row.Row.{Ghosts}
use Rattle.rows.specs.declared.table.Rows.{Rows}
use Rattle.rows.specs.declared.search.Search.{Search}
use Rattle.rows.specs.declared.search.Search.TheVariants.{ByHalves, FromFront}
use Rattle.rows.specs.Search.{Allows}
use Rattle.rows.specs.Tables.{rows_seen}
use Rattle.rows.proofs.Splits.{length_rows}
use Rattle.visit.specs.Order.{Chained, RisingBy}

module _ {X : Type 0} (before : X → X → Bool) (chained : Chained before) (x : X) where
  -- How many rows come before the item, from the front.
  abbrev place_in : List X → ℕ
  place_in ys = prefix_len (λ z. before z x) ys

  -- Behind a row that does not come before the item none does.
  none_behind : (y : X) (ys : List X) → before y x ≡ false → AllByRecursion (λ z. before y z ≡ true) ys → AllByRecursion (λ z. before z x ≡ false) ys
  none_behind y ys n a = All-weaker (λ z. before y z ≡ true) (λ z. before z x ≡ false) (λ z b. grind (arith, chained y z x b)) ys a

  behind_first : (y : X) (ys : List X) (b : Bool) → before y x ≡ b → AllByRecursion (λ z. before y z ≡ true) ys → AllByRecursion (λ z. before z x ≡ false) (drop (place_in ys) ys)
      → AllByRecursion (λ z. before z x ≡ false) (drop (cond b (1 + place_in ys) 0) (y ∷ ys))
  behind_first y ys true e a rest = let next : 1 + place_in ys ≡ suc (place_in ys) = omega arith in rw next rest
  behind_first y ys false e a rest = (e, none_behind y ys e a)

  -- None from the place on comes before the item.
  pub rising_behind : (ys : List X) → RisingBy before ys → AllByRecursion (λ z. before z x ≡ false) (drop (place_in ys) ys)
  rising_behind [] r = tt
  rising_behind (y ∷ ys) r = behind_first y ys (before y x) refl r.0 (rising_behind ys r.1)

  -- So a row comes before the item exactly where it stands before the place.
  pub rising_splits : (ys : List X) → RisingBy before ys → (k : ℕ) (y : X) → k < length ys → y ≡ get_or ys k y → Decides (before y x) (k < place_in ys)
  rising_splits ys r k y h e =
      let n = place_in ys in
      let not_past : before y x ≡ true → n ≤ k → ⊥ = λ b past.
      let long = length-drop n ys in
      let at : n + (k - n) ≡ k = omega arith in
      let same : get_or (drop n ys) (k - n) y ≡ y = get_or-drop n ys (k - n) y ∙ ap (λ i. get_or ys i y) at ∙ sym e in
      let later = All-get_or (λ z. before z x ≡ false) (drop n ys) (k - n) y (omega arith) (rising_behind ys r) in
      let z : true ≡ false = sym b ∙ ap (λ u. before u x) (sym same) ∙ later in
      cc z in
      (λ b. omega (arith, not_past b), λ q. ap (λ u. before u x) e ∙ prefix_len_passes (λ z. before z x) ys k y q)

module _ {R : Type 0} {g : Ghosts R} (t : Rows R g) where
  pub place_within : (p : R → Bool) → prefix_len p (rows_seen t) ≤ t.len
  place_within p = omega (arith, prefix_len-le-length p (rows_seen t), length_rows g.WIDTH g.made t.len t.cells.now)

-- Rows that a change leaves in order may still be searched as before.
pub allows_kept : {A B : Type 0} (s : Search) → (A → B) → Allows s A → Allows s B
allows_kept FromFront f a = tt
allows_kept ByHalves f a = f a
