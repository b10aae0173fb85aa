use Rattle.std.proofs.Common.{◌≡◌, ◌≤◌, Bool}
use Rattle.rows.proofs.Filtering.{Filtered}
use Rattle.rows.specs.Tests.{Answers}
use Rattle.rows.proofs.table.Table.retain.Given as goal

abbrev pub invariant-loop-i : goal.invariant-loop-i
invariant-loop-i g l =
    record {
      same : l.self.cells.ghost_name ≡ l.initial.self.cells.ghost_name;
      many : l.self.len ≡ l.initial.self.len;
      behind : l.to ≤ l.i;
      passing : (p : g.row.R.Denot → Bool) → Answers (goal.F-post g l.test) p
          → Filtered g.R.Row.WIDTH g.R.Row.made p l.initial.self.len l.initial.self.cells.now l.self.cells.now l.to l.i;
    }
