use Rattle.guarantees.proofs.Moments.{any_order_same_row}
use Rattle.guarantees.proofs.contents.any_order_same_row.Goals as goal

pub returns : goal.returns
returns c = any_order_same_row
