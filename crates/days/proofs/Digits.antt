-- Words of digits, and the value that they write.
use Rattle.std.proofs.Common.{◌≡◌, ℕ, ◌+◌, ◌^◌, ◌<◌, ◌≤◌, true, false, not, ◌&&◌, eqb, List, [], ◌∷◌, length, Ok, Err, Result, refl, ap, subst, arith, rules}
use Rattle.std.specs.Char.{is_ascii_digit}
use Rattle.std.specs.List.{AllByRecursion, list_all}
use Rattle.std.specs.Str.{IsUtf8, all_ascii_digits}
use Rattle.std.specs.Str.Parse.{ParsesUnsigned}
use Rattle.std.proofs.ByRecursion.{IsAscii-from_all}
use Rattle.std.proofs.lemmas.Bool.Decides.{nat_tests}
use Rattle.std.proofs.lemmas.Str.Parse.{IsNumeralModel, numerals_by_fold, parse_digits}
use Rattle.days.specs.declared.Reason.TheVariants.{TooLarge}
use Rattle.days.specs.Numbers.{is_number, number_in, value_after}
use Rattle.days.specs.Words.{filled}
use Rattle.days.proofs.Splitting.{split}
use Rattle.std.proofs.lemmas.Str.{IsUtf8-from_ascii}

pub own : IsNumeralModel (λ ds. all_ascii_digits ds ≡ true) (value_after 0)
own = numerals_by_fold _ (search rules) value_after (search rules)

pub filled_is : (w : List ℕ) → filled w ≡ not (eqb (length w) 0)
filled_is [] = refl
filled_is (b ∷ bs) = grind (arith, nat_tests)

pub digits_all : (w : List ℕ) → list_all is_ascii_digit w ≡ all_ascii_digits w
digits_all [] = refl
digits_all (b ∷ bs) = ap (λ r. is_ascii_digit b && r) (digits_all bs)

below : (w : List ℕ) → all_ascii_digits w ≡ true → AllByRecursion (λ b. b < 128) w
below [] h = tt
below (b ∷ bs) h = (grind (arith, nat_tests), below bs (grind (arith, nat_tests)))

pub no_text : (w : List ℕ) → (IsUtf8 w → ⊥) → is_number w ≡ false
no_text w n = split (is_number w) (λ o. absurd (n (IsUtf8-from_ascii w (IsAscii-from_all w (below w (grind (arith, nat_tests))))))) (λ o. o)

-- what `parse` reads of a number
module _ {E : Type 0} (most : ℕ) (w : List ℕ) (r : Result ℕ E) (parsed : ParsesUnsigned 64 10 w r) (number : is_number w ≡ true) where
  pub read_fits : (n : ℕ) → r ≡ Ok n → n ≤ most → Ok n ≡ number_in (most + 1) w
  read_fits n e l =
      let v = subst (λ s. ParsesUnsigned 64 10 w s) e parsed in
      let q = parse_digits own {E = E} 64 w (Ok n) v (grind (arith, nat_tests)) in
      grind (arith, nat_tests)

  pub read_large : (n : ℕ) → r ≡ Ok n → most < n → Err TooLarge ≡ number_in (most + 1) w
  read_large n e l =
      let v = subst (λ s. ParsesUnsigned 64 10 w s) e parsed in
      let q = parse_digits own {E = E} 64 w (Ok n) v (grind (arith, nat_tests)) in
      grind (arith, nat_tests)

  pub unread_large : (x : E) → r ≡ Err x → most < 2 ^ 64 → Err TooLarge ≡ number_in (most + 1) w
  unread_large x e l =
      let v = subst (λ s. ParsesUnsigned 64 10 w s) e parsed in
      let q = parse_digits own {E = E} 64 w (Err x) v (grind (arith, nat_tests)) in
      grind (arith, nat_tests)
