use Rattle.model.proofs.Mirror.{forgetting_unseen}
use Rattle.model.proofs.unseen.forgetting_unseen.Goals as goal

pub returns : goal.returns
returns c = forgetting_unseen
