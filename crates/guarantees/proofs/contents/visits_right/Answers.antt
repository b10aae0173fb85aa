use Rattle.guarantees.proofs.Taking.{row_visits_right}
use Rattle.guarantees.proofs.contents.visits_right.Goals as goal

pub returns : goal.returns
returns c = row_visits_right
