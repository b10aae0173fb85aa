use Rattle.guarantees.proofs.Follow.{reply_counts}
use Rattle.guarantees.proofs.corrections.reply_counts.Goals as goal

pub returns : goal.returns
returns c = reply_counts
