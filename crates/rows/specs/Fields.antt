-- The numbers at places that follow one another are a part of the list.
use Rattle.std.specs.Prelude.{◌≡◌, ℕ, zero, suc, ◌+◌, ◌<◌, ◌≤◌, List, [], ◌∷◌, length, take, drop, slice_index, refl}
use Rattle.std.proofs.Common.{arith, drop-cons}

abbrev pub fields_from : ℕ → ℕ → List ℕ → List ℕ
fields_from i zero xs = []
fields_from i (suc n) xs = slice_index xs i ∷ fields_from (suc i) n xs

pub fields_taken : (i n : ℕ) (xs : List ℕ) → i + n ≤ length xs → fields_from i n xs ≡ take n (drop i xs)
fields_taken i zero xs h = refl
fields_taken i (suc n) xs h =
    let here : i < length xs = omega arith in
    rw (fields_taken (suc i) n xs (omega arith), drop-cons xs i 0 here)
