-- Refusals, on any row at all.
use Rattle.std.specs.Prelude.{Err, ◌≡◌, ℕ, Bool, true, ◌&&◌, ◌||◌, List, ◌==◌, nat_le}
use Rattle.command.specs.declared.Refusal.{Refusal}
use Rattle.command.specs.declared.Refusal.TheVariants.{TooLate}
use Rattle.command.specs.Numbers.{Reply, reply_number}
use Rattle.store.specs.Contents.{header_in}
use Rattle.command.specs.Cells.{command_in}
use Rattle.guarantees.specs.Calls.{Call, answer}

-- A refusal changes no number, neither of the store nor of the row for the changes.
abbrev pub RefusalsChangeNothing : Type 0
RefusalsChangeNothing =
    (xs : List ℕ) (c : Call) (r : Refusal) → (answer xs c).reply ≡ Err r → ((answer xs c).store ≡ xs) × ((answer xs c).out ≡ c.out)

-- A command is judged by its own rules unless something was wrong before: it is done, or refused with 4, 5 or 6.
abbrev pub judged : Reply → Bool
judged r = reply_number r == 0 || (nat_le 4 (reply_number r) && nat_le (reply_number r) 6)

-- Whether a reading is too late depends on terms and watermark alone: of two rows that have these in common, whatever else they hold, both or neither
-- refuse it for that, if both come to judge it.
abbrev pub TooLateAlone : Type 0
TooLateAlone =
    (xs ys : List ℕ) (c d : Call)
    → (header_in xs).clock.terms ≡ (header_in ys).clock.terms → (header_in xs).clock.watermark ≡ (header_in ys).clock.watermark → command_in c.command ≡ command_in d.command
    → judged (answer xs c).reply ≡ true → judged (answer ys d).reply ≡ true
    → (time : ℕ) → (answer xs c).reply ≡ Err (TooLate time) → (answer ys d).reply ≡ Err (TooLate time)
