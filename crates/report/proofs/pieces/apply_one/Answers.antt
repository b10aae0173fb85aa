use Rattle.std.proofs.Common.{List, ◌++◌, string_bytes, sym, ap, ◌∙◌}
use Rattle.std.proofs.lemmas.List.{append_assoc}
use Rattle.std.proofs.lemmas.Result.{IfOk-weaker}
use Rattle.command.specs.declared.Command.{Command}
use Rattle.command.specs.Outcomes.{outcome_of}
use Rattle.feed.specs.Text.{outcome_text}
use Rattle.report.proofs.pieces.apply_one.Goals as goal

pub returns : goal.returns
returns g c =
    let before = string_bytes c.args.text.now in
    let text = outcome_text (outcome_of c.in_ok-answer.answer) in
    IfOk-weaker c.put_answer.result _ _ (λ _ p. λ (cs : List Command).
    let rest = g.S.Sessions.prints c.apply.new.self cs in
    ap (λ bs. bs ++ rest) p
    ∙ append_assoc before text rest
    ∙ ap (λ bs. before ++ bs) (sym (c.in_ok-answer.ensures cs))) c.put_answer.ensures
