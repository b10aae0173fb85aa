use Rattle.guarantees.proofs.InVain.{row_nothing_in_vain}
use Rattle.guarantees.proofs.contents.nothing_in_vain.Goals as goal

pub returns : goal.returns
returns c = row_nothing_in_vain
