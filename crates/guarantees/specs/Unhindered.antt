-- Runs that want of room does not hinder: replies, changes and ledger as one would have them of the reference alone.
use Rattle.std.specs.Prelude.{◌≡◌, ℕ, ◌≤◌, true, false, List, [], ◌∷◌, map, length, slice_index}
use Rattle.std.specs.List.{AllByRecursion}
use Rattle.visit.specs.declared.Terms.{Terms}
use Rattle.command.specs.declared.Command.{Command}
use Rattle.command.specs.Outcomes.{Outcome, reply_of}
use Rattle.model.specs.Reference.{Reference, bounded_after, bounded_outcomes, empty, ledger_of}
use Rattle.store.specs.Contents.{empty_row, store_in}
use Rattle.command.specs.Cells.{command_in, command_width, known_kind}
use Rattle.changes.specs.Room.{out_width}
use Rattle.guarantees.specs.Calls.{Call, answers, row_left}
use Rattle.guarantees.specs.Faithful.{out_after, withheld}

-- A call with whole rows: a command of a known kind with all its numbers, and enough room for the changes.
pub record Whole (c : Call) : Type 0 where
  pub numbers : command_width ≤ length c.command
  pub kind : known_kind (slice_index c.command 0) ≡ true
  pub room : out_width ≤ length c.out

-- No call is refused with 1 or 7.
abbrev pub Unhindered : List ℕ → List Call → Type 0
Unhindered xs calls = AllByRecursion (λ a. withheld a.reply ≡ false) (answers xs calls)

abbrev pub commands : List Call → List Command
commands calls = map (λ c. command_in c.command) calls

-- The rows for the changes, after outcomes one by one.
abbrev pub outs_after : List Outcome → List Call → List (List ℕ)
outs_after [] cs = []
outs_after (o ∷ os) [] = []
outs_after (o ∷ os) (c ∷ cs) = out_after o c.out ∷ outs_after os cs

pub record AsReference (t : Terms) (k : Reference) (xs : List ℕ) (calls : List Call) : Type 0 where
  pub replies : map (λ a. a.reply) (answers xs calls) ≡ map reply_of (bounded_outcomes t k (commands calls))
  pub outs : map (λ a. a.out) (answers xs calls) ≡ outs_after (bounded_outcomes t k (commands calls)) calls
  pub ledger : (store_in (row_left xs calls)).ledger ≡ ledger_of t (bounded_after t k (commands calls))

-- Of whole calls none is refused with 1 or 7: then all is as the reference has it.
abbrev pub UnhinderedRun : Type 0
UnhinderedRun = (t : Terms) (xs : List ℕ) (calls : List Call) → AllByRecursion Whole calls → Unhindered (empty_row t xs) calls → AsReference t empty (empty_row t xs) calls
