use Rattle.std.proofs.Common.{◌≡◌}
use Rattle.std.specs.List.{repeat}
use Rattle.rows.specs.Limits.{first_over}
use Rattle.rows.proofs.Overs.{over_from}
use Rattle.rows.proofs.table.Rows.first_over.Given as goal

abbrev pub invariant-loop-i : goal.invariant-loop-i
invariant-loop-i g l =
    over_from g.R.Row.WIDTH g.R.Row.limits l.self.len l.i l.self.cells.now ≡ first_over 0 (repeat l.self.len g.R.Row.limits) l.self.cells.now
