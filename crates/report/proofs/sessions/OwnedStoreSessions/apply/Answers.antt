use Rattle.std.proofs.Common.{◌≡◌, ℕ, ◌++◌, sym, ap, ◌∙◌}
use Rattle.std.proofs.lemmas.Result.{IfOk-weaker}
use Rattle.command.specs.Outcomes.{outcome_of}
use Rattle.feed.specs.Text.{outcome_text}
use Rattle.store.specs.declared.capacity.Capacity.{Capacity}
use Rattle.owned.specs.Rows.{outcome_to, row_then}
use Rattle.owned.specs.State.{capacity_of, out_long, row_of}
use Rattle.report.specs.Texts.{store_prints}
use Rattle.report.proofs.sessions.OwnedStoreSessions.apply.Goals as goal

pub returns : goal.returns
returns c =
    let s = c.args.self.now in
    let next = c.apply.new.self in
    let e = c.apply.ensures in
    IfOk-weaker c.apply.result (λ a. outcome_of a ≡ outcome_to (capacity_of s) (row_of s) (out_long s) c.args.command) _
    (λ a is cs.
    ap (λ o. outcome_text o ++ store_prints (capacity_of s) (out_long s) (row_then (capacity_of s) (row_of s) (out_long s) c.args.command) cs) (sym is)
    ∙ ap (λ (k : Capacity). outcome_text (outcome_of a) ++ store_prints k (out_long s) (row_then (capacity_of s) (row_of s) (out_long s) c.args.command) cs) (sym e.capacity)
    ∙ ap (λ (n : ℕ). outcome_text (outcome_of a) ++ store_prints (capacity_of next) n (row_then (capacity_of s) (row_of s) (out_long s) c.args.command) cs) (sym e.out)
    ∙ ap (λ xs. outcome_text (outcome_of a) ++ store_prints (capacity_of next) (out_long next) xs cs) (sym e.row))
    e.answer
