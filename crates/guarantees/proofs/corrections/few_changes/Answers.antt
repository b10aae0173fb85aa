use Rattle.guarantees.proofs.Meeting.{row_few_changes}
use Rattle.guarantees.proofs.corrections.few_changes.Goals as goal

pub returns : goal.returns
returns c = row_few_changes
