use Rattle.report.proofs.Comparing.{same_beginning}
use Rattle.report.proofs.same.same_beginning.Goals as goal

pub returns : goal.returns
returns c = same_beginning
