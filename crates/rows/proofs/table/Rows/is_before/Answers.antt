use Rattle.std.proofs.Common.{◌<◌, length, sym, ◌∙◌, arith}
use Rattle.rows.specs.Tables.{rows_seen}
use Rattle.rows.proofs.Halves.{rising_splits}
use Rattle.rows.proofs.Splits.{length_rows}
use Rattle.rows.proofs.table.Rows.is_before.Goals as goal

pub returns : goal.returns
returns g c =
    let r = g.R.Row in
    let t = c.args.self.now in
    let within : c.args.at < length (rows_seen t) = omega (arith, c.requires.within, length_rows r.WIDTH r.made t.len t.cells.now) in
    let splits = rising_splits (g.R.Ordered.precedes c.args.terms) (g.met.R.Ordered.chained c.args.terms) c.args.row
    (rows_seen t) c.requires.order c.args.at c.row.result within (c.row.ensures c.row.result) in
    (λ b. splits.0 (sym c.before-2.ensures ∙ b), λ h. c.before-2.ensures ∙ splits.1 h)
