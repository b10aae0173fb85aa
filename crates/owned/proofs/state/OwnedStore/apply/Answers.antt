use Rattle.std.proofs.Common.{◌≡◌, vec_items, ◌∙◌}
use Rattle.std.proofs.lemmas.Result.{IfOk-weaker}
use Rattle.command.specs.Outcomes.{outcome_of}
use Rattle.owned.specs.Rows.{outcome_to}
use Rattle.owned.specs.State.{capacity_of, out_long, row_of}
use Rattle.owned.specs.Replies.{outcome_from}
use Rattle.owned.proofs.Replies.{means}
use Rattle.owned.proofs.state.OwnedStore.apply.Goals as goal

pub answer_of-requires : goal.answer_of-requires
answer_of-requires c =
    let s = c.args.self.now in
    let o = outcome_to (capacity_of s) (row_of s) (out_long s) c.args.command in
    (means o c.reply_to-reply.result (vec_items s.out) c.as_slice.result.now c.reply_to-reply.ensures.reply (c.as_slice.ensures.value ∙ c.reply_to-reply.ensures.out)).readable

pub returns-clause-answer : goal.returns-clause-answer
returns-clause-answer c =
    let s = c.args.self.now in
    let o = outcome_to (capacity_of s) (row_of s) (out_long s) c.args.command in
    let written = means o c.reply_to-reply.result (vec_items s.out) c.as_slice.result.now c.reply_to-reply.ensures.reply (c.as_slice.ensures.value ∙ c.reply_to-reply.ensures.out) in
    IfOk-weaker c.answer_of.result (λ a. outcome_of a ≡ outcome_from c.reply_to-reply.result c.as_slice.result.now) _ (λ a e. e ∙ written.outcome) c.answer_of.ensures
