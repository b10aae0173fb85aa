use Rattle.std.proofs.Common.{◌-◌, ◌≤◌}
use Rattle.rows.specs.Tables.{Becomes, rows_of}
use Rattle.live.proofs.Walking.{Merging}
use Rattle.live.proofs.merging.merge.Given as goal

abbrev pub invariant-loop-at : goal.invariant-loop-at
invariant-loop-at l =
    record {
      few : l.table.len ≤ l.initial.table.len;
      after : Becomes l.initial.table l.table l.initial.table.len (rows_of l.table);
      merging : Merging l.terms l.initial.whole (rows_of l.initial.table) (rows_of l.table) l.whole l.at;
    }

-- Each round takes a visit in or passes one.
abbrev pub decreases-loop-at : goal.decreases-loop-at
decreases-loop-at l = l.table.len - l.at
