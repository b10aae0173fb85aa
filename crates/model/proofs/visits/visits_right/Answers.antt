use Rattle.model.proofs.Partition.{visits_right}
use Rattle.model.proofs.visits.visits_right.Goals as goal

pub returns : goal.returns
returns c = visits_right
