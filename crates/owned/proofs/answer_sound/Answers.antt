use Rattle.std.proofs.Common.{◌≡◌, length, ap, ◌∙◌}
use Rattle.std.proofs.lemmas.Result.{IfOk-weaker}
use Rattle.command.specs.Outcomes.{outcome_of}
use Rattle.store.specs.Applied.{outcome_in, row_by}
use Rattle.store.specs.Faults.{verdict}
use Rattle.owned.specs.Replies.{outcome_from}
use Rattle.owned.proofs.Replies.{means}
use Rattle.owned.proofs.answer_sound.Goals as goal

pub answer_of-requires : goal.answer_of-requires
answer_of-requires c =
    let xs = c.args.row.now in
    let out = c.args.out.now in
    let o = outcome_in xs (verdict c.args.capacity xs c.into-cells.result (length out)) in
    (means o c.apply_sound-reply.result out c.apply_sound-reply.new.out c.apply_sound-reply.ensures.reply c.apply_sound-reply.ensures.out).readable

pub returns : goal.returns
returns c =
    let cap = c.args.capacity in
    let xs = c.args.row.now in
    let out = c.args.out.now in
    let n = length out in
    let o = outcome_in xs (verdict cap xs c.into-cells.result n) in
    let written = means o c.apply_sound-reply.result out c.apply_sound-reply.new.out c.apply_sound-reply.ensures.reply c.apply_sound-reply.ensures.out in
    record {
      answer = IfOk-weaker c.answer_of.result (λ a. outcome_of a ≡ outcome_from c.apply_sound-reply.result c.apply_sound-reply.new.out) _ (λ a e. e ∙ written.outcome ∙ ap (λ cs. outcome_in xs (verdict cap xs cs n)) c.into-cells.ensures) c.answer_of.ensures;
      row = c.apply_sound-reply.ensures.store ∙ ap (λ cs. row_by xs (verdict cap xs cs n)) c.into-cells.ensures;
    }
