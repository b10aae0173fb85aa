-- The store in a row answers as the reference does, call after call.
use Rattle.std.specs.Prelude.{◌≡◌, ℕ, Bool, false, cond, ◌||◌, List, [], ◌∷◌, length, None, Option, Result, ◌==◌}
use Rattle.std.specs.List.{AllByRecursion}
use Rattle.visit.specs.declared.Terms.{Terms}
use Rattle.command.specs.declared.Refusal.{Refusal}
use Rattle.command.specs.Numbers.{Reply, reply_number}
use Rattle.command.specs.Bounds.{terms_fault}
use Rattle.command.specs.Outcomes.{Outcome, reply_of}
use Rattle.model.specs.Reference.{Reference, empty, ledger_of, outcome_by, plan, state_by}
use Rattle.store.specs.Applied.{Applied}
use Rattle.store.specs.Contents.{empty_row, store_in}
use Rattle.command.specs.Cells.{command_in, row_fault}
use Rattle.store.specs.Faults.{first_fault, out_fault}
use Rattle.changes.specs.Out.{outcome_row, overlay}
use Rattle.guarantees.specs.Calls.{Call, answer}

-- What is wrong with a call whatever was taken in before, in this order: the terms, the command's row, the row for the changes.
abbrev pub call_faults : Terms → Call → List (Option Refusal)
call_faults t c = terms_fault t ∷ row_fault c.command ∷ out_fault (length c.out) ∷ []

-- What the reference makes of a call: such a refusal, or else its plan for the command.
abbrev pub planned : Terms → Reference → Call → Result Reference Refusal
planned t k c = first_fault (call_faults t c) (plan t k (command_in c.command))

-- The row for the changes after an outcome. A refusal leaves it as it was.
abbrev pub out_after : Outcome → List ℕ → List ℕ
out_after o out = overlay (outcome_row o) out

-- The refusals 1 and 7 come of how the store keeps things. The reference does not get a command that is so refused.
abbrev pub withheld : Reply → Bool
withheld r = reply_number r == 1 || reply_number r == 7

abbrev pub next : Terms → Reference → Call → Reply → Reference
next t k c r = cond (withheld r) k (state_by k (planned t k c))

-- The reference after calls on a row.
abbrev pub reference_left : Terms → Reference → List ℕ → List Call → Reference
reference_left t k xs [] = k
reference_left t k xs (c ∷ cs) = reference_left t (next t k c (answer xs c).reply) (answer xs c).store cs

-- An answer is right, where the reference is k: unless the command is withheld, reply and changes are the reference's; and only a call with nothing
-- wrong with it is refused for want of room.
pub record RightAnswer (t : Terms) (k : Reference) (c : Call) (a : Applied) : Type 0 where
  pub reply : withheld a.reply ≡ false → a.reply ≡ reply_of (outcome_by t k (planned t k c))
  pub out : withheld a.reply ≡ false → a.out ≡ out_after (outcome_by t k (planned t k c)) c.out
  pub full : reply_number a.reply ≡ 7 → AllByRecursion (λ f. f ≡ None) (call_faults t c)

-- Along calls on a row: the ledger in the row is always the reference's, and each answer is right.
abbrev pub Faithful : Terms → Reference → List ℕ → List Call → Type 0
Faithful t k xs [] = (store_in xs).ledger ≡ ledger_of t k
Faithful t k xs (c ∷ cs) =
    ((store_in xs).ledger ≡ ledger_of t k) × RightAnswer t k c (answer xs c) × Faithful t (next t k c (answer xs c).reply) (answer xs c).store cs

-- So it is from an empty store on, whatever the terms, the rest of the row and the calls.
abbrev pub StoreFaithful : Type 0
StoreFaithful = (t : Terms) (xs : List ℕ) (calls : List Call) → Faithful t empty (empty_row t xs) calls
