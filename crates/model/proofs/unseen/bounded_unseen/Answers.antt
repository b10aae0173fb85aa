use Rattle.model.proofs.Mirror.{bounded_unseen}
use Rattle.model.proofs.unseen.bounded_unseen.Goals as goal

pub returns : goal.returns
returns c = bounded_unseen
