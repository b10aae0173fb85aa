-- The number and the place of every refusal, and of every reply.
use Rattle.std.specs.Prelude.{ℕ, Ok, Err, Result}
use Rattle.command.specs.declared.Refusal.{Refusal}
use Rattle.command.specs.declared.Refusal.TheVariants.{BadStore, BadTerms, BadCommand, TooLate, Duplicate, Backwards, Full, ShortOut}

abbrev pub number : Refusal → ℕ
number (BadStore p) = 1
number (BadTerms p) = 2
number (BadCommand p) = 3
number (TooLate p) = 4
number (Duplicate p) = 5
number (Backwards p) = 6
number (Full p) = 7
number (ShortOut p) = 8

abbrev pub place : Refusal → ℕ
place (BadStore p) = p
place (BadTerms p) = p
place (BadCommand p) = p
place (TooLate p) = p
place (Duplicate p) = p
place (Backwards p) = p
place (Full p) = p
place (ShortOut p) = p

-- How many visits changed, or why none did.
abbrev pub Reply : Type 0
Reply = Result ℕ Refusal

-- A command that was done has the number 0, and its value is how many visits changed.
abbrev pub reply_number : Reply → ℕ
reply_number (Ok n) = 0
reply_number (Err r) = number r

abbrev pub reply_value : Reply → ℕ
reply_value (Ok n) = n
reply_value (Err r) = place r
