use Rattle.std.proofs.Common.{sym, ap, ◌∙◌}
use Rattle.rows.proofs.Splits.{get_d_rows}
use Rattle.rows.proofs.Written.{part_read}
use Rattle.rows.proofs.table.Rows.row.Goals as goal

pub returns : goal.returns
returns g c =
    let r = g.R.Row in
    let t = c.args.self.now in
    λ d. c.read.ensures
    ∙ ap r.made (part_read c.WIDTH.result r.WIDTH c.args.i t.cells.now c.WIDTH.ensures)
    ∙ sym (get_d_rows r.WIDTH r.made c.args.i t.len t.cells.now d c.requires)
