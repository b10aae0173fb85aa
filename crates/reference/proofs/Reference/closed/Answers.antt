use Rattle.std.proofs.Common.{rules, filter, ap, ◌∙◌}
use Rattle.std.proofs.lemmas.Fn.{filter_same}
use Rattle.visit.specs.Visits.{closed}
use Rattle.model.specs.Sessions.{visits}
use Rattle.reference.proofs.Reference.closed.Goals as goal

pub returns : goal.returns
returns c =
    let clock = c.args.self.now.clock in
    let all = c.in_ok-visits.ensures ∙ ap (visits clock.terms) c.deref.ensures.value in
    c.shrink_to_fit.ensures.items
    ∙ filter_same _ (closed clock.terms clock.watermark) _ (λ x b f' k. search rules) _ _ c.retain.ensures.filtered ∙ ap (filter (closed clock.terms clock.watermark)) all
