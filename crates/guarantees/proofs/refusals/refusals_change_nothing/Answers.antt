use Rattle.guarantees.proofs.Judging.{refusals_change_nothing}
use Rattle.guarantees.proofs.refusals.refusals_change_nothing.Goals as goal

pub returns : goal.returns
returns c = refusals_change_nothing
