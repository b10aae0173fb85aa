use Rattle.std.proofs.Common.{◌+◌, ◌≤◌}
use Rattle.std.specs.List.{prefix_len}
use Rattle.rows.specs.Tables.{rows_seen}
use Rattle.rows.proofs.table.Rows.place_by_halves.Given as goal

abbrev pub invariant-loop-size : goal.invariant-loop-size
invariant-loop-size g l =
    let place = prefix_len (λ x. g.R.Ordered.precedes l.fn.terms x l.fn.row) (rows_seen l.fn.self) in
    record { low : l.low ≤ place; size : place ≤ l.low + l.size; within : l.low + l.size ≤ l.self.len }

abbrev pub decreases-loop-size : goal.decreases-loop-size
decreases-loop-size g l = l.size
