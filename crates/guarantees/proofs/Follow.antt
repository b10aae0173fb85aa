-- What is read from `out`, and what one has who follows it.
use Rattle.std.proofs.Common.{◌≡◌, ℕ, ◌+◌, true, false, List, [], ◌∷◌, length, Ok, Err, Result, sym, refl, ap, ◌∙◌, subst, arith}
use Rattle.std.proofs.lemmas.Bool.{false≢true}
use Rattle.visit.specs.declared.Terms.{Terms}
use Rattle.visit.specs.declared.Visit.{Visit}
use Rattle.command.specs.declared.Refusal.{Refusal}
use Rattle.command.specs.Numbers.{Reply}
use Rattle.command.specs.Outcomes.{Outcome, changed, refused, reply_of}
use Rattle.model.specs.AddsUp.{AllSound, Sound, applied_all, applied_to}
use Rattle.model.specs.Ledger.{totals}
use Rattle.model.specs.Reference.{Reference, closed_of, empty, outcome_by}
use Rattle.model.specs.Store.{Draft}
use Rattle.model.proofs.Adding.{applied_outcome, sound_outcome}
use Rattle.model.proofs.Order.{SortedReadings}
use Rattle.rows.specs.Out.{gone_count, new_count}
use Rattle.store.specs.Applied.{Applied, applied_by}
use Rattle.store.specs.Contents.{empty_row}
use Rattle.store.specs.Faults.{verdict}
use Rattle.store.proofs.Ending.{gone_written, new_written}
use Rattle.guarantees.specs.Calls.{Call, answer}
use Rattle.guarantees.specs.Faithful.{Faithful, RightAnswer, next, out_after, planned, reference_left, withheld}
use Rattle.guarantees.specs.Following.{ReplyCounts, RowChangesAddUp, outcome_read, outcomes_read, read_from}
use Rattle.guarantees.proofs.Along.{next_heard, next_withheld, store_faithful}
use Rattle.guarantees.proofs.Keeping.{next_sorted}
use Rattle.guarantees.proofs.Moments.{row_stands}

-- What is written of an outcome is read again.
pub read_again : (o : Outcome) (out : List ℕ) → read_from (reply_of o) (out_after o out) ≡ o
read_again (changed gone new) out = grind (arith, gone_written gone new out, new_written gone new out)
read_again (refused r) out = refl

counts_by : (xs out : List ℕ) (v : Result Draft Refusal) (n : ℕ) → (applied_by xs out v).reply ≡ Ok n
    → n ≡ gone_count (applied_by xs out v).out + new_count (applied_by xs out v).out
counts_by xs out (Ok d) n e = cc
counts_by xs out (Err r) n e = grind arith

pub reply_counts : ReplyCounts
reply_counts xs c n e = counts_by xs c.out (verdict c.capacity xs c.command (length c.out)) n e

-- So an answer that is right says what the reference does, unless it is withheld; then it is a refusal.
pub heard_read : (t : Terms) (k : Reference) (c : Call) (a : Applied) → RightAnswer t k c a → withheld a.reply ≡ false → outcome_read a ≡ outcome_by t k (planned t k c)
heard_read t k c a r h = grind (arith, read_again)

pub withheld_read : (r : Reply) (out : List ℕ) → withheld r ≡ true → (q : Refusal) × (read_from r out ≡ refused q)
withheld_read (Ok n) out h = absurd (false≢true h)
withheld_read (Err q) out h = (q, refl)

-- One answer: what it says is sound, and leads to the closed visits of the next reference.
abbrev Follows : Terms → Reference → Call → Applied → Type 0
Follows t k c a = (applied_to t (closed_of t k) (outcome_read a) ≡ closed_of t (next t k c a.reply)) × Sound (closed_of t k) (outcome_read a)

follows : (t : Terms) (k : Reference) (c : Call) (a : Applied) → SortedReadings t k.readings → RightAnswer t k c a → Follows t k c a
follows t k c a s r = grind (arith, next_sorted t k c a.reply s, sound_outcome t k (planned t k c), withheld_read, next_withheld, heard_read, next_heard, SortedReadings, applied_outcome)

-- All of them.
followed_from : (t : Terms) (k : Reference) (xs : List ℕ) (calls : List Call) → SortedReadings t k.readings → Faithful t k xs calls
    → (applied_all t (closed_of t k) (outcomes_read xs calls) ≡ closed_of t (reference_left t k xs calls)) × AllSound t (closed_of t k) (outcomes_read xs calls)
followed_from t k xs [] s f = (refl, tt)
followed_from t k xs (c ∷ cs) s f =
    let a : Applied = answer xs c in
    let j : Reference = next t k c a.reply in
    let one = follows t k c a s f.1 in
    let rest = followed_from t j a.store cs (next_sorted t k c a.reply s) f.2 in (
      ap (λ (vs : List Visit). applied_all t vs (outcomes_read a.store cs)) one.0 ∙ rest.0,
      (one.1, subst (λ (vs : List Visit). AllSound t vs (outcomes_read a.store cs)) (sym one.0) rest.1),
    )

pub row_changes_add_up : RowChangesAddUp
row_changes_add_up t xs calls =
    let f = followed_from t empty (empty_row t xs) calls tt (store_faithful t xs calls) in
    record {
      whole = f.0;
      ledger = (row_stands t xs calls).ledger ∙ sym (ap (totals t) f.0);
      sound = f.1;
    }
