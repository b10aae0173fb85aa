use Rattle.std.proofs.Common.{◌∙◌}
use Rattle.rows.proofs.Moved.{closed}
use Rattle.rows.proofs.cells.close.Goals as goal

pub returns : goal.returns
returns c =
    c.clear.ensures ∙ closed c.args.at c.args.end c.args.w c.args.table.now c.requires.order c.requires.within _ c.copy_within.ensures.after
