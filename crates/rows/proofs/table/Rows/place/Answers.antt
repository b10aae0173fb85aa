use Rattle.rows.specs.Tables.{rows_seen}
use Rattle.rows.proofs.Running.{rows_given}
use Rattle.rows.proofs.table.Rows.place.Goals as goal

pub returns-in-FromFront-clause-before : goal.returns-in-FromFront-clause-before
returns-in-FromFront-clause-before g c = c.place.ensures.before (rows_seen c.args.self.now) (rows_given _ _ c.iter.ensures.rest)
