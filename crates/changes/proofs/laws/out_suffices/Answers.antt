use Rattle.changes.proofs.Counts.{out_suffices}
use Rattle.changes.proofs.laws.out_suffices.Goals as goal

pub returns : goal.returns
returns c = out_suffices
