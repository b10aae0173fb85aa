use Rattle.model.proofs.Changes.{on_time}
use Rattle.model.proofs.few.on_time.Goals as goal

pub returns : goal.returns
returns c = on_time
