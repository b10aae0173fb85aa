-- The bounds of terms and commands, and the refusals that they bring.
use Rattle.std.specs.Prelude.{ℕ, ◌+◌, ◌^◌, cond, List, [], ◌∷◌, Some, None, Ok, Err, Option, Result, ◌==◌, nat_lt}
use Rattle.std.specs.Option.{option_map}
use Rattle.visit.specs.Limits.{time_limit}
use Rattle.visit.specs.declared.Terms.{Terms}
use Rattle.command.specs.declared.Command.{Command}
use Rattle.command.specs.declared.Command.TheVariants.{Reading, Watermark}
use Rattle.command.specs.declared.Refusal.{Refusal}
use Rattle.command.specs.declared.Refusal.TheVariants.{BadTerms, BadCommand}

-- Cards, serials and amounts are below this.
abbrev pub word_limit : ℕ
word_limit = 2 ^ 32

-- Gap, lateness and day length have the places 0, 1 and 2; the first that is out of its bounds counts.
abbrev pub terms_fault : Terms → Option Refusal
terms_fault t =
    cond (nat_lt t.gap time_limit)
    (cond (nat_lt t.lateness time_limit) (cond (t.day == 0) (Some (BadTerms 2)) None) (Some (BadTerms 1)))
    (Some (BadTerms 0))

-- The numbers of a command behind its kind, in the order of the row, each with its limit.
abbrev pub fields : Command → List (ℕ × ℕ)
fields (Reading e) = (e.card, word_limit) ∷ (e.time, time_limit) ∷ (e.serial, word_limit) ∷ (e.amount, word_limit) ∷ []
fields (Watermark m) = (m, time_limit) ∷ []

-- The first place, counted from i, whose number is not below its limit.
abbrev pub first_over : ℕ → List (ℕ × ℕ) → Option ℕ
first_over i [] = None
first_over i (f ∷ fs) = cond (nat_lt f.0 f.1) (first_over (i + 1) fs) (Some i)

-- The kind has the place 0, so the fields begin at 1.
abbrev pub command_fault : Command → Option Refusal
command_fault c = option_map BadCommand (first_over 1 (fields c))

-- A value, unless there is a fault.
abbrev pub unless : {X : Type 0} → Option Refusal → X → Result X Refusal
unless None x = Ok x
unless (Some r) x = Err r

-- The check of one number, which has this place.
abbrev pub below : (number limit place : ℕ) → Result (Unit {0}) Refusal
below number limit place = cond (nat_lt number limit) (Ok tt) (Err (BadCommand place))
