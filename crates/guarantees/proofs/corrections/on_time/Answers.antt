use Rattle.guarantees.proofs.Meeting.{row_on_time}
use Rattle.guarantees.proofs.corrections.on_time.Goals as goal

pub returns : goal.returns
returns c = row_on_time
