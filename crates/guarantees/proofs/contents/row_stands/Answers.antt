use Rattle.guarantees.proofs.Moments.{row_stands}
use Rattle.guarantees.proofs.contents.row_stands.Goals as goal

pub returns : goal.returns
returns c = row_stands
