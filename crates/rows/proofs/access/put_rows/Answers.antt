use Rattle.std.proofs.Common.{◌*◌, ◌++◌, drop, sym, ap, ◌∙◌}
use Rattle.std.proofs.iter.SoFar.{exit_by}
use Rattle.rows.specs.Rows.{cells_of}
use Rattle.rows.proofs.Copying.{written_more}
use Rattle.rows.proofs.access.put_rows.Goals as goal

pub loop-row-preserved : goal.loop-row-preserved
loop-row-preserved g c =
    written_more g.R.Row.laws c.loop-row.yielded c.loop-row.count c.args.target.now c.loop-row.target c.put.new.table c.in-Some.row c.loop-row.invariant c.put.ensures

pub returns : goal.returns
returns g c =
    let r = g.R.Row in
    let whole = exit_by g.I.Iterator.next_gives (c.loop-row.yielded, c.loop-row.yielded_by) c.next.new.self c.in-None.ensures.steps in (
      whole.0,
      whole.1 ∙ c.into_iter-row-iterator.ensures.into_iter_gives,
      whole.2,
      (
        c.loop-row.invariant.0 ∙ sym whole.3.1,
        c.loop-row.invariant.1 ∙ ap (λ l. cells_of r.cells l ++ drop (c.loop-row.count * r.WIDTH) c.args.target.now) (sym whole.3.0),
      ),
    )
