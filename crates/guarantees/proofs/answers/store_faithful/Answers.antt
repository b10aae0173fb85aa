use Rattle.guarantees.proofs.Along.{store_faithful}
use Rattle.guarantees.proofs.answers.store_faithful.Goals as goal

pub returns : goal.returns
returns c = store_faithful
