use Rattle.guarantees.proofs.Judging.{too_late_alone}
use Rattle.guarantees.proofs.refusals.too_late_alone.Goals as goal

pub returns : goal.returns
returns c = too_late_alone
