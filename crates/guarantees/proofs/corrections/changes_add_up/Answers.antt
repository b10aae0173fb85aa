use Rattle.guarantees.proofs.Follow.{row_changes_add_up}
use Rattle.guarantees.proofs.corrections.changes_add_up.Goals as goal

pub returns : goal.returns
returns c = row_changes_add_up
