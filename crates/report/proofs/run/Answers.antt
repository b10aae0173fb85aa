use Rattle.std.proofs.Common.{◌++◌, string_bytes, sym, ap, ◌∙◌}
use Rattle.feed.specs.Files.{commands}
use Rattle.feed.specs.Text.{ledger_text}
use Rattle.report.proofs.Cutting.{whole_text}
use Rattle.report.proofs.run.Goals as goal

pub returns-clause-text : goal.returns-clause-text
returns-clause-text g c =
    let prints = g.S.Sessions.prints in
    let bs = c.args.bytes.now in
    let done = c.in_ok-done.ensures in
    let text = string_bytes c.apply_whole.new.text in
    c.in_ok-put_ledger.ensures ∙ ap (λ ls. text ++ ledger_text ls) c.deref.ensures.value ∙ ap (λ ledger. text ++ ledger) (sym c.in_ok-lines.ensures)
    ∙ whole_text prints c.args.sessions c.apply_whole.new.sessions c.in_ok-done.done bs text done.none
    (λ more. done.text more ∙ ap (λ start. start ++ prints c.args.sessions (commands (bs ++ more))) c.new-text.ensures.bytes)
