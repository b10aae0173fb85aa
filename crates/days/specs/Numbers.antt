-- Numbers in decimal digits.
use Rattle.std.specs.Prelude.{ℕ, ◌+◌, ◌-◌, ◌*◌, ◌^◌, Bool, cond, ◌&&◌, List, [], ◌∷◌, Ok, Err, Result, nat_lt}
use Rattle.std.specs.Str.{all_ascii_digits}
use Rattle.days.specs.declared.Reason.{Reason}
use Rattle.days.specs.declared.Reason.TheVariants.{NotNumber, TooLarge}
use Rattle.days.specs.Words.{filled}

-- Cards, serials and amounts are below the limit of a word, all other numbers below this.
abbrev pub number_limit : ℕ
number_limit = 2 ^ 64

-- The value of digits that follow a number.
abbrev pub value_after : ℕ → List ℕ → ℕ
value_after n [] = n
value_after n (d ∷ ds) = value_after (10 * n + (d - 48)) ds

-- Digits only, and at least one.
abbrev pub is_number : List ℕ → Bool
is_number word = filled word && all_ascii_digits word

abbrev pub number_in : ℕ → List ℕ → Result ℕ Reason
number_in limit word =
    cond (is_number word) (cond (nat_lt (value_after 0 word) limit) (Ok (value_after 0 word)) (Err TooLarge)) (Err NotNumber)
