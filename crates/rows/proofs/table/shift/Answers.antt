use Rattle.std.proofs.Common.{arith}
use Rattle.rows.proofs.Products.{rows_rise}
use Rattle.rows.proofs.Replaced.{rows_from}
use Rattle.rows.proofs.table.shift.Goals as goal

pub close-requires-clause-order : goal.close-requires-clause-order
close-requires-clause-order g c =
    omega (arith, rows_from c.WIDTH-w.result c.args.to c.args.from (omega arith), rows_rise c.WIDTH-w.result c.args.from c.args.n c.requires.place)
