use Rattle.std.proofs.Common.{◌≡◌, rules, ap, ◌∙◌}
use Rattle.model.specs.Reference.{empty}
use Rattle.reference.specs.State.{model_of, terms_of}
use Rattle.report.specs.Texts.{recompute_text, reference_prints}
use Rattle.report.proofs.Sources.{streamed_text}
use Rattle.report.proofs.recompute_stream.Goals as goal

pub returns : goal.returns
returns g c =
    streamed_text _ _ recompute_text _ _ _ c.stream.result (λ t s cs made.
    let terms : terms_of s ≡ t = search rules in
    let state : model_of s ≡ empty = search rules in
    ap (λ u. reference_prints u (model_of s) cs) terms ∙ ap (λ k. reference_prints t k cs) state) c.stream.ensures
