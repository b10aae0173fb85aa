-- A row cut into its parts one after the other.
use Rattle.std.proofs.Common.{◌≡◌, ℕ, ◌+◌, ◌-◌, ◌≤◌, List, take, drop, ap, ◌∙◌, arith}
use Rattle.std.specs.List.{between}
use Rattle.std.proofs.lemmas.List.{drop-drop}
use Rattle.store.specs.Layout.{lines_at, readings_at, store_size, visits_at}
use Rattle.store.specs.Parts.{Parts, parts}

abbrev parts_of : List ℕ → List ℕ → List ℕ → List ℕ → List ℕ → Parts
parts_of h v r l b = record { header = h; visits = v; readings = r; lines = l; rest = b }

drop_on : (a b : ℕ) (xs ys zs : List ℕ) → a ≤ b → ys ≡ drop a xs → zs ≡ drop (b - a) ys → zs ≡ drop b xs
drop_on a b xs ys zs h y z =
    let end : a + (b - a) ≡ b = omega arith in
    z ∙ ap (drop (b - a)) y ∙ drop-drop (b - a) a xs ∙ ap (λ k. drop k xs) end

-- The four parts in front and what is behind them, each with what was left when it was cut off.
module _ (a b e z : ℕ) (xs h v r l from_v from_r from_l rest : List ℕ) (in_b : a ≤ b) (in_e : b ≤ e) (in_z : e ≤ z) where
  cut_at : h ≡ take a xs → from_v ≡ drop a xs → v ≡ take (b - a) from_v → from_r ≡ drop (b - a) from_v → r ≡ take (e - b) from_r → from_l ≡ drop (e - b) from_r
      → l ≡ take (z - e) from_l → rest ≡ drop (z - e) from_l
      → parts_of h v r l rest ≡ parts_of (take a xs) (between a b xs) (between b e xs) (between e z xs) (drop z xs)
  cut_at front_h back_h front_v back_v front_r back_r front_l back_l =
      let r' = drop_on a b xs from_v from_r in_b back_h back_v in
      let l' = drop_on b e xs from_r from_l in_e r' back_r in
      let rest' = drop_on e z xs from_l rest in_z l' back_l in
      cc

pub cut_parts : (xs h v r l from_v from_r from_l rest : List ℕ) → h ≡ take visits_at xs → from_v ≡ drop visits_at xs
    → v ≡ take (readings_at - visits_at) from_v → from_r ≡ drop (readings_at - visits_at) from_v
    → r ≡ take (lines_at - readings_at) from_r → from_l ≡ drop (lines_at - readings_at) from_r
    → l ≡ take (store_size - lines_at) from_l → rest ≡ drop (store_size - lines_at) from_l
    → parts_of h v r l rest ≡ parts xs
cut_parts xs h v r l from_v from_r from_l rest =
    cut_at visits_at readings_at lines_at store_size xs h v r l from_v from_r from_l rest (omega arith) (omega arith) (omega arith)
