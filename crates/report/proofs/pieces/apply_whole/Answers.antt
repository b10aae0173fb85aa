use Rattle.std.proofs.Common.{◌∙◌, sym, string_bytes}
use Rattle.feed.specs.Commands.{bytes_left}
use Rattle.feed.proofs.Cutting.{unread_more}
use Rattle.report.proofs.Cutting.{tail_more, text_more}
use Rattle.report.proofs.pieces.apply_whole.Goals as goal

pub loop-command-preserved : goal.loop-command-preserved
loop-command-preserved g c =
    let bs = c.args.bytes.now in
    let now = bytes_left c.loop-command.commands in
    let rest = bytes_left c.next.new.self in
    let front = c.in-Some.ensures.steps.2 in
    record {
      text = text_more g.S.Sessions.prints _ _ _ _ _ (string_bytes c.apply_one.new.text) bs now rest c.in-Some.command front c.in_ok-apply_one.ensures c.loop-command.invariant.text;
      rest = λ more. sym (unread_more now more c.in-Some.command rest front) ∙ c.loop-command.invariant.rest more;
      tail = tail_more bs now rest c.in-Some.command c.loop-command.invariant.tail front;
    }
