-- What one call that is done writes to `out`.
use Rattle.std.proofs.Common.{Ok, ◌≡◌, ℕ, ◌+◌, ◌≤◌, false, List, [], ◌∷◌, length, drop, filter, sym, refl, ap, ◌∙◌, subst, ⊎_elim, arith}
use Rattle.std.proofs.lemmas.Bool.{ltb-false}
use Rattle.visit.specs.declared.Reading.{Reading}
use Rattle.visit.specs.declared.Terms.{Terms}
use Rattle.visit.specs.declared.Visit.{Visit}
use Rattle.command.specs.declared.Command.{Command}
use Rattle.command.specs.declared.Command.TheVariants.{Reading as AReading, Watermark}
use Rattle.command.specs.Outcomes.{Outcome, changed, refused, reply_of}
use Rattle.model.specs.Few.{became, met}
use Rattle.model.specs.Reference.{Reference, outcome, outcome_by, plan}
use Rattle.model.specs.Sessions.{closed_visits}
use Rattle.model.specs.Store.{Store, draft}
use Rattle.model.proofs.Changes.{few_changes, on_time, only_what_is_met}
use Rattle.changes.specs.Changed.{newly_closed}
use Rattle.changes.specs.Out.{change_row, overlay}
use Rattle.changes.proofs.Differences.{only_newly_closed}
use Rattle.store.specs.Applied.{Applied, applied_by}
use Rattle.store.specs.Contents.{store_in, terms_in}
use Rattle.command.specs.Cells.{command_in}
use Rattle.store.specs.Layout.{store_size}
use Rattle.guarantees.specs.AnyTime.{reference_now, row_now}
use Rattle.guarantees.specs.Calls.{Call, answer}
use Rattle.guarantees.specs.Faithful.{RightAnswer, call_faults, out_after, planned, withheld}
use Rattle.guarantees.specs.Few.{FewWritten, RowFewChanges, RowOnTime, RowWatermarkAdds}
use Rattle.guarantees.specs.Refusals.{judged}
use Rattle.guarantees.proofs.Along.{left_now, moved}
use Rattle.guarantees.proofs.Judging.{judged_drafts}
use Rattle.guarantees.proofs.Keeping.{Reached, reached_now}
use Rattle.guarantees.proofs.Moments.{row_stands}
use Rattle.guarantees.proofs.Refusing.{OpenRefusal, call_only, first_none, which_comes}

-- After any calls the answer to one more is right.
pub right_now : (t : Terms) (xs : List ℕ) (before : List Call) (c : Call) → RightAnswer t (reference_now t xs before) c (answer (row_now t xs before) c)
right_now t xs before c =
    let l = left_now t xs before in
    let k : Reference = reference_now t xs before in
    subst (λ (ys : List ℕ). RightAnswer t k c (answer ys c)) (sym l.row) (moved t k l.stands (drop store_size xs) c).right

-- A command that is done has the reference's outcome, and that is written.
pub record Written (t : Terms) (k : Reference) (c : Call) (a : Applied) (n : ℕ) : Type 0 where
  pub gone : List Visit
  pub new : List Visit
  pub outcome : outcome t k (command_in c.command) ≡ changed gone new
  pub out : a.out ≡ overlay (change_row gone new) c.out
  pub count : n ≡ length gone + length new

module _ (t : Terms) (k : Reference) (c : Call) (a : Applied) (n : ℕ) (done : a.reply ≡ Ok n) where
  written_by : (o : Outcome) → outcome t k (command_in c.command) ≡ o → a.reply ≡ reply_of o → a.out ≡ out_after o c.out → Written t k c a n
  written_by (changed gone new) o r w = grind arith
  written_by (refused q) o r w = grind arith

  pub written : RightAnswer t k c a → Written t k c a n
  written right =
      let heard : withheld a.reply ≡ false = ap withheld done in
      ⊎_elim
      (λ fine.
      let p : outcome_by t k (planned t k c) ≡ outcome t k (command_in c.command) = ap (outcome_by t k) (first_none (call_faults t c) (plan t k (command_in c.command)) fine) in
      written_by (outcome t k (command_in c.command)) refl (right.reply heard ∙ ap reply_of p) (right.out heard ∙ ap (λ (o : Outcome). out_after o c.out) p))
      (λ b.
      let p : outcome_by t k (planned t k c) ≡ refused b.refusal = ap (outcome_by t k) (b.first _) in
      absurd (let z : ◌≡◌ {A = ℕ} 0 1 = cc (done, right.reply heard ∙ ap reply_of p) in omega arith))
      (which_comes OpenRefusal (call_faults t c) (call_only t c))

pub written_now : (t : Terms) (xs : List ℕ) (before : List Call) (c : Call) (n : ℕ) → (answer (row_now t xs before) c).reply ≡ Ok n
    → Written t (reference_now t xs before) c (answer (row_now t xs before) c) n
written_now t xs before c n done = written t (reference_now t xs before) c (answer (row_now t xs before) c) n done (right_now t xs before c)

-- What the model says of a reading, of a reference that calls lead to.
abbrev MetAlone : Terms → Reference → Type 0
MetAlone t k =
    (e : Reading) (gone new : List Visit) → outcome t k (AReading e) ≡ changed gone new
    → ((gone ≡ closed_visits t k.watermark (met t k e)) × (new ≡ closed_visits t k.watermark (became t k e ∷ []))) × ((length gone ≤ 2) × (length new ≤ 1))

met_alone : (t : Terms) (k : Reference) → Reached t k → MetAlone t k
met_alone t k r = subst (MetAlone t) (sym r.1) (λ e gone new o. (only_what_is_met t r.0 e gone new o, few_changes t r.0 e gone new o))

abbrev NoneOnTime : Terms → Reference → Type 0
NoneOnTime t k = (e : Reading) (gone new : List Visit) → k.watermark ≤ e.time → outcome t k (AReading e) ≡ changed gone new → (gone ≡ []) × (new ≡ [])

none_on_time : (t : Terms) (k : Reference) → Reached t k → NoneOnTime t k
none_on_time t k r = grind (arith, on_time t r.0)

few_by : (t : Terms) (k : Reference) (e : Reading) (gone new : List Visit) (before after : List ℕ) → after ≡ overlay (change_row gone new) before
    → ((gone ≡ closed_visits t k.watermark (met t k e)) × (new ≡ closed_visits t k.watermark (became t k e ∷ []))) × ((length gone ≤ 2) × (length new ≤ 1))
    → FewWritten t k e before after
few_by t k e gone new before after w m = grind arith

pub row_few_changes : RowFewChanges
row_few_changes t xs before c e n q done =
    let k : Reference = reference_now t xs before in
    let w = written_now t xs before c n done in
    let o : outcome t k (AReading e) ≡ changed w.gone w.new = sym (ap (outcome t k) q) ∙ w.outcome in
    few_by t k e w.gone w.new c.out _ w.out (met_alone t k (reached_now t xs before) e w.gone w.new o)

pub row_on_time : RowOnTime
row_on_time t xs before c e n q h done =
    let k : Reference = reference_now t xs before in
    let w = written_now t xs before c n done in
    let o : outcome t k (AReading e) ≡ changed w.gone w.new = sym (ap (outcome t k) q) ∙ w.outcome in
    let stands = (row_stands t xs before).kept.watermark in
    let none = none_on_time t k (reached_now t xs before) e w.gone w.new (omega arith) o in (
      w.count ∙ ap (λ (vs : List Visit). length vs + length w.new) none.0 ∙ ap (λ (vs : List Visit). 0 + length vs) none.1,
      w.out ∙ ap (λ (vs : List Visit). overlay (change_row vs w.new) c.out) none.0 ∙ ap (λ (vs : List Visit). overlay (change_row [] vs) c.out) none.1,
    )

-- A watermark, on any row.
abbrev Adds : Terms → Store → ℕ → (before after : List ℕ) → Type 0
Adds t s m before after = after ≡ out_after (changed [] (filter (newly_closed t s.watermark m) s.live)) before

adds_by : (xs out : List ℕ) (m n : ℕ) → (applied_by xs out (draft (terms_in xs) (store_in xs) (Watermark m))).reply ≡ Ok n
    → Adds (terms_in xs) (store_in xs) m out (applied_by xs out (draft (terms_in xs) (store_in xs) (Watermark m))).out
adds_by xs out m n e = grind (arith, only_newly_closed, ltb-false)

pub row_watermark_adds : RowWatermarkAdds
row_watermark_adds xs c m n q done =
    let same = judged_drafts xs c (ap judged done) ∙ ap (λ (d : Command). applied_by xs c.out (draft (terms_in xs) (store_in xs) d)) q in
    subst (λ (a : Applied). Adds (terms_in xs) (store_in xs) m c.out a.out) (sym same) (adds_by xs c.out m n (sym (ap (λ (a : Applied). a.reply) same) ∙ done))
