-- What has changed, by what the calls write to `out`: one who only follows that has the closed visits.
use Rattle.std.specs.Prelude.{Err, Ok, ◌≡◌, ℕ, ◌+◌, List, [], map}
use Rattle.visit.specs.declared.Terms.{Terms}
use Rattle.visit.specs.declared.Visit.{Visit}
use Rattle.command.specs.Numbers.{Reply}
use Rattle.command.specs.Outcomes.{Outcome, changed, refused}
use Rattle.model.specs.AddsUp.{AllSound, applied_all}
use Rattle.model.specs.Ledger.{totals}
use Rattle.model.specs.Reference.{closed_of}
use Rattle.rows.specs.Out.{gone_count, gone_in, new_count, new_in}
use Rattle.store.specs.Applied.{Applied}
use Rattle.store.specs.Contents.{empty_row, store_in}
use Rattle.guarantees.specs.AnyTime.{reference_now, row_now}
use Rattle.guarantees.specs.Calls.{Call, answer, answers}

-- What an answer says: the visits that stand in `out` as retracted and as added if the command was done, or the refusal.
abbrev pub read_from : Reply → List ℕ → Outcome
read_from (Ok n) out = changed (gone_in out) (new_in out)
read_from (Err r) out = refused r

abbrev pub outcome_read : Applied → Outcome
outcome_read a = read_from a.reply a.out

abbrev pub outcomes_read : List ℕ → List Call → List Outcome
outcomes_read xs calls = map outcome_read (answers xs calls)

-- On any row, a command that is done answers how many visits stand in `out`.
abbrev pub ReplyCounts : Type 0
ReplyCounts =
    (xs : List ℕ) (c : Call) (n : ℕ) → (answer xs c).reply ≡ Ok n → n ≡ gone_count (answer xs c).out + new_count (answer xs c).out

-- The visits that one has who starts with none and at each answer takes out what is retracted and puts in what is added.
abbrev pub visits_followed : Terms → List ℕ → List Call → List Visit
visits_followed t xs calls = applied_all t [] (outcomes_read (empty_row t xs) calls)

-- These are the closed visits of the reference, and the ledger in the row is theirs; what is retracted was there, and what is added was not.
pub record Followed (t : Terms) (xs : List ℕ) (calls : List Call) : Type 0 where
  pub whole : visits_followed t xs calls ≡ closed_of t (reference_now t xs calls)
  pub ledger : (store_in (row_now t xs calls)).ledger ≡ totals t (visits_followed t xs calls)
  pub sound : AllSound t [] (outcomes_read (empty_row t xs) calls)

-- So it is after any calls from an empty store on, and so at every moment, whatever is refused among them.
abbrev pub RowChangesAddUp : Type 0
RowChangesAddUp = (t : Terms) (xs : List ℕ) (calls : List Call) → Followed t xs calls
