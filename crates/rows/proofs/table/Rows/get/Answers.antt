use Rattle.std.proofs.Common.{sym, arith}
use Rattle.std.proofs.lemmas.Option.{slice_get_past, slice_get_read}
use Rattle.rows.specs.Tables.{rows_seen}
use Rattle.rows.proofs.Splits.{length_rows}
use Rattle.rows.proofs.table.Rows.get.Goals as goal

pub returns-then-i-self : goal.returns-then-i-self
returns-then-i-self g c =
    let t = c.args.self.now in
    sym (slice_get_read (rows_seen t) t.len c.args.i c.row.result (sym (length_rows g.R.Row.WIDTH g.R.Row.made t.len t.cells.now)) c.if-i-self.true (c.row.ensures c.row.result))

pub returns-else-i-self : goal.returns-else-i-self
returns-else-i-self g c =
    let t = c.args.self.now in
    sym (slice_get_past (rows_seen t) c.args.i (omega (arith, length_rows g.R.Row.WIDTH g.R.Row.made t.len t.cells.now)))
