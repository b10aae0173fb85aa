use Rattle.guarantees.proofs.Runs.{unhindered_run}
use Rattle.guarantees.proofs.answers.unhindered_run.Goals as goal

pub returns : goal.returns
returns c = unhindered_run
