-- Numbers that have to stay below a limit.
use Rattle.std.specs.Prelude.{ℕ, ◌+◌, ◌^◌, Bool, false, cond, List, [], ◌∷◌, Some, None, Option, nat_le}

abbrev pub count_limit : ℕ
count_limit = 2 ^ 40

abbrev pub sum_limit : ℕ
sum_limit = 2 ^ 52

-- Whether a number is not below its limit, where it has one.
abbrev pub over : Option ℕ → ℕ → Bool
over None x = false
over (Some b) x = nat_le b x

-- The index of the first number that is not below its limit; the numbers have indices from i on.
abbrev pub first_over : ℕ → List (Option ℕ) → List ℕ → Option ℕ
first_over i [] xs = None
first_over i (l ∷ ls) [] = None
first_over i (l ∷ ls) (x ∷ xs) = cond (over l x) (Some i) (first_over (i + 1) ls xs)
