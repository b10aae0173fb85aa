use Rattle.model.proofs.Changes.{few_changes}
use Rattle.model.proofs.few.few_changes.Goals as goal

pub returns : goal.returns
returns c = few_changes
