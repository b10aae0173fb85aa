use Rattle.rows.proofs.Running.{rows_count, rows_run}
use Rattle.rows.proofs.Splits.{length_rows}
use Rattle.rows.proofs.table.Rows.iter.Goals as goal

pub returns-clause-bound : goal.returns-clause-bound
returns-clause-bound g c = rows_count c.args.self g.R.Row.laws.some c.ranges.self.0

pub returns-clause-runs : goal.returns-clause-runs
returns-clause-runs g c = rows_run g.R.Row

pub returns-clause-len : goal.returns-clause-len
returns-clause-len g c = length_rows g.R.Row.WIDTH g.R.Row.made c.args.self.len c.args.self.cells.now
