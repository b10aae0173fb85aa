-- The readings of the calls that are done are those that the reference has taken in.
use Rattle.std.proofs.Common.{Ok, Err, ◌≡◌, ℕ, true, List, [], ◌∷◌, Result, sym, refl, ap, ◌∙◌, subst, ⊎_elim, arith}
use Rattle.std.proofs.lemmas.Bool.{false≢true}
use Rattle.visit.specs.declared.Reading.{Reading}
use Rattle.visit.specs.declared.Terms.{Terms}
use Rattle.command.specs.declared.Command.{Command}
use Rattle.command.specs.declared.Command.TheVariants.{Reading as AReading, Watermark}
use Rattle.command.specs.declared.Refusal.{Refusal}
use Rattle.command.specs.Cells.{command_in}
use Rattle.command.specs.Numbers.{Reply}
use Rattle.command.specs.Outcomes.{reply_of}
use Rattle.model.specs.Reference.{Reference, empty, outcome_by, plan, state_by}
use Rattle.model.proofs.Common.{split}
use Rattle.store.specs.Applied.{Applied}
use Rattle.store.specs.Contents.{empty_row}
use Rattle.guarantees.specs.AnyTime.{reference_now}
use Rattle.guarantees.specs.Calls.{Call, answer}
use Rattle.guarantees.specs.Faithful.{Faithful, RightAnswer, call_faults, next, planned, reference_left, withheld}
use Rattle.guarantees.specs.Taken.{RightRow, RowVisitsRight, taken_by, taken_left, taken_now}
use Rattle.guarantees.proofs.Along.{next_heard, next_withheld, store_faithful}
use Rattle.guarantees.proofs.Follow.{row_changes_add_up}
use Rattle.guarantees.proofs.Keeping.{visits_right_now}
use Rattle.guarantees.proofs.Moments.{row_stands}
use Rattle.guarantees.proofs.Refusing.{OpenRefusal, call_only, first_none, which_comes}

-- A reply that is a refusal takes nothing in, and one that is withheld is a refusal.
taken_refused : (t : Terms) (c : Command) (r : Refusal) (es : List Reading) → taken_by t c (Err r) es ≡ es
taken_refused t (AReading e) r es = refl
taken_refused t (Watermark m) r es = refl

taken_withheld : (t : Terms) (c : Command) (r : Reply) (es : List Reading) → withheld r ≡ true → taken_by t c r es ≡ es
taken_withheld t c (Ok n) es h = absurd (false≢true h)
taken_withheld t c (Err r) es h = taken_refused t c r es

-- By a plan.
abbrev TakenBy : Terms → Reference → Command → Result Reference Refusal → Type 0
TakenBy t k c p = (state_by k p).readings ≡ taken_by t c (reply_of (outcome_by t k p)) k.readings

taken_plan : (t : Terms) (k : Reference) (c : Command) → TakenBy t k c (plan t k c)
taken_plan t k (AReading e) = grind arith
taken_plan t k (Watermark m) = grind arith

taken_planned : (t : Terms) (k : Reference) (c : Call) → TakenBy t k (command_in c.command) (planned t k c)
taken_planned t k c =
    let d : Command = command_in c.command in
    ⊎_elim
    (λ fine. subst (TakenBy t k d) (sym (first_none (call_faults t c) (plan t k d) fine)) (taken_plan t k d))
    (λ b. subst (TakenBy t k d) (sym (b.first _)) (sym (taken_refused t d b.refusal k.readings)))
    (which_comes OpenRefusal (call_faults t c) (call_only t c))

-- By a right answer, and by all of them.
taken_next : (t : Terms) (k : Reference) (c : Call) (a : Applied) → RightAnswer t k c a
    → (next t k c a.reply).readings ≡ taken_by t (command_in c.command) a.reply k.readings
taken_next t k c a right =
    let d : Command = command_in c.command in
    split (withheld a.reply)
    (λ o. ap (λ (j : Reference). j.readings) (next_withheld t k c a.reply o) ∙ sym (taken_withheld t d a.reply k.readings o))
    (λ o.
    ap (λ (j : Reference). j.readings) (next_heard t k c a.reply o) ∙ taken_planned t k c
    ∙ sym (ap (λ (r : Reply). taken_by t d r k.readings) (right.reply o)))

taken_from : (t : Terms) (k : Reference) (xs : List ℕ) (calls : List Call) → Faithful t k xs calls
    → (reference_left t k xs calls).readings ≡ taken_left t k.readings xs calls
taken_from t k xs [] f = refl
taken_from t k xs (c ∷ cs) f =
    let a : Applied = answer xs c in
    taken_from t (next t k c a.reply) a.store cs f.2 ∙ ap (λ (es : List Reading). taken_left t es a.store cs) (taken_next t k c a f.1)

same_state : (j k : Reference) → j.readings ≡ k.readings → j.watermark ≡ k.watermark → j ≡ k
same_state j k p q = grind arith

pub row_visits_right : RowVisitsRight
row_visits_right t xs calls =
    let k : Reference = reference_now t xs calls in
    let kept = (row_stands t xs calls).kept in
    let same = same_state k (taken_now t xs calls) (taken_from t empty (empty_row t xs) calls (store_faithful t xs calls)) (sym kept.watermark) in
    subst (λ (j : Reference). RightRow t j xs calls) same
    (record { reference = refl; right = visits_right_now t xs calls; live = kept.live; closed = (row_changes_add_up t xs calls).whole })
