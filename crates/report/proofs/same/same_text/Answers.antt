use Rattle.report.proofs.Comparing.{same_text}
use Rattle.report.proofs.same.same_text.Goals as goal

pub returns : goal.returns
returns c = same_text
