use Rattle.model.proofs.Same.{any_order}
use Rattle.model.proofs.visits.any_order.Goals as goal

pub returns : goal.returns
returns c = any_order
