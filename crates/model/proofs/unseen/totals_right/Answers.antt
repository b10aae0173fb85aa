use Rattle.model.proofs.Lines.{totals_right}
use Rattle.model.proofs.unseen.totals_right.Goals as goal

pub returns : goal.returns
returns c = totals_right
