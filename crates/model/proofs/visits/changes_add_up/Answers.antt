use Rattle.model.proofs.Adding.{changes_add_up}
use Rattle.model.proofs.visits.changes_add_up.Goals as goal

pub returns : goal.returns
returns c = changes_add_up
