-- A row that commands have written, from an empty store on, and totals of what they took in.
use Rattle.std.specs.Prelude.{◌≡◌, ℕ, ◌≤◌, min, Bool, ◌&&◌, List, length, sum_by, nat_lt}
use Rattle.visit.specs.declared.Terms.{Terms}
use Rattle.command.specs.declared.Command.{Command}
use Rattle.command.specs.declared.Command.TheVariants.{Reading as AReading, Watermark}
use Rattle.rows.specs.Limits.{count_limit, sum_limit}
use Rattle.guarantees.specs.AnyTime.{reference_now, row_now}
use Rattle.guarantees.specs.Calls.{Call}

-- The most that a command takes in.
abbrev pub amount_in : Command → ℕ
amount_in (AReading e) = e.amount
amount_in (Watermark m) = 0

-- Totals by which no number in the row can be over its limit.
abbrev pub below_limits : ℕ → ℕ → Bool
below_limits amount taken = nat_lt amount sum_limit && nat_lt taken count_limit

-- A total that is below its limit is no less than what was taken in.
pub record Written (xs : List ℕ) (amount taken : ℕ) : Type 0 where
  pub terms : Terms
  pub start : List ℕ
  pub calls : List Call
  pub row : xs ≡ row_now terms start calls
  pub sum : min (sum_by (λ e. e.amount) (reference_now terms start calls).readings) sum_limit ≤ amount
  pub count : min (length (reference_now terms start calls).readings) count_limit ≤ taken
