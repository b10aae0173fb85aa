use Rattle.std.proofs.Common.{drop, ap, ◌∙◌}
use Rattle.std.proofs.lemmas.List.{drop-drop}
use Rattle.feed.proofs.files.read_terms.Goals as goal

pub returns-clause-rest : goal.returns-clause-rest
returns-clause-rest c =
    let bs = c.args.bytes.now in
    c.in_ok-day.ensures.1 ∙ ap (drop 8) (c.in_ok-lateness.ensures.1 ∙ ap (drop 8) c.in_ok-gap.ensures.1 ∙ drop-drop 8 8 bs) ∙ drop-drop 8 16 bs
