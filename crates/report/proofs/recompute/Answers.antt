use Rattle.std.proofs.Common.{◌≡◌, rules, ap, ◌∙◌}
use Rattle.model.specs.Reference.{empty}
use Rattle.reference.specs.State.{model_of, terms_of}
use Rattle.report.specs.Texts.{recompute_text, reference_prints}
use Rattle.report.proofs.Printing.{reported_by}
use Rattle.report.proofs.recompute.Goals as goal

pub returns : goal.returns
returns c =
    reported_by _ _ recompute_text c.args.file.now c.report.result (λ t s cs made.
    let terms : terms_of s ≡ t = search rules in
    let state : model_of s ≡ empty = search rules in
    ap (λ u. reference_prints u (model_of s) cs) terms ∙ ap (λ k. reference_prints t k cs) state) c.report.ensures
