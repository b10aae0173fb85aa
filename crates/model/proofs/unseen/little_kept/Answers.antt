use Rattle.model.proofs.Kept.{little_kept}
use Rattle.model.proofs.unseen.little_kept.Goals as goal

pub returns : goal.returns
returns c = little_kept
