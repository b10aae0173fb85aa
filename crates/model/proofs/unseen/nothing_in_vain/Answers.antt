use Rattle.model.proofs.Kept.{nothing_in_vain}
use Rattle.model.proofs.unseen.nothing_in_vain.Goals as goal

pub returns : goal.returns
returns c = nothing_in_vain
