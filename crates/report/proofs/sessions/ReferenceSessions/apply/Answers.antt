use Rattle.command.specs.Outcomes.{outcome_of}
use Rattle.reference.specs.State.{model_of, terms_of}
use Rattle.report.proofs.Printing.{made_both, prints_more}
use Rattle.report.proofs.sessions.ReferenceSessions.apply.Goals as goal

pub returns : goal.returns
returns c =
    let before = c.args.self.now in
    let after = c.apply.new.self in
    made_both c.apply.result _ _ _ c.apply.ensures.answer c.apply.ensures.state
    (λ a answer state cs. prints_more (terms_of before) (terms_of after) (model_of before) (model_of after) (outcome_of a) c.args.command cs c.apply.ensures.terms answer state)
