use Rattle.report.proofs.Comparing.{same_text_heard}
use Rattle.report.proofs.same.same_text_heard.Goals as goal

pub returns : goal.returns
returns c = same_text_heard
