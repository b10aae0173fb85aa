-- Numbers in bytes, low byte first.
use Rattle.std.specs.Prelude.{◌≡◌, ℕ, zero, suc, ◌+◌, ◌*◌, ◌/◌, ◌%◌, ◌<◌, List, [], ◌∷◌, ◌++◌, length, take, drop, is_ok, if◌then◌else◌, Option, MatchOption, Result, Vec}
use Rattle.std.specs.declared.alloc.Global.{Global}
use Rattle.std.specs.Borrow.{Bor}

-- The number that bytes make.
abbrev pub low_first : List ℕ → ℕ
low_first [] = 0
low_first (b ∷ bs) = b + 256 * low_first bs

-- The number of the n bytes from byte i on.
abbrev pub number_at : ℕ → ℕ → List ℕ → ℕ
number_at n i bs = low_first (take n (drop i bs))

-- A number in n bytes.
unfoldable pub bytes_of : ℕ → ℕ → List ℕ
bytes_of zero x = []
bytes_of (suc n) x = x % 256 ∷ bytes_of n (x / 256)

-- What the first n bytes say, and the bytes behind them; none where there are fewer.
abbrev pub TakesFirst : {X : Type 0} → ℕ → X → List ℕ → Option (X × Bor (List ℕ)) → Type 0
TakesFirst n said bs r =
    MatchOption r (length bs < n) (λ p. (p.0 ≡ said) × (p.1.now ≡ drop n bs) × (length p.1.now + n ≡ length bs))

-- All of the bytes are put behind a file or, in a failure, none of them.
abbrev pub PutsWhole : {E : Type 0} → Result (Unit {0}) E → (before : Vec ℕ Global) → (more : List ℕ) → (after : Vec ℕ Global) → Type 0
PutsWhole r before more after = after.items ≡ (if is_ok r then before.items ++ more else before.items)
