use Rattle.std.proofs.Common.{◌≡◌, ◌-◌, ◌≤◌}
use Rattle.rows.specs.Tables.{Becomes, rows_of}
use Rattle.live.proofs.Aside.{Walked}
use Rattle.live.proofs.merging.set_aside.Given as goal

abbrev pub invariant-loop-at : goal.invariant-loop-at
invariant-loop-at l =
    record {
      len : l.table.len ≡ l.initial.table.len;
      within : l.others ≤ l.table.len;
      after : Becomes l.initial.table l.table l.initial.table.len (rows_of l.table);
      walked : Walked l.terms l.initial.grown (rows_of l.initial.table) (rows_of l.table) l.grown l.others l.at;
    }

-- Each round takes a visit in or passes one.
abbrev pub decreases-loop-at : goal.decreases-loop-at
decreases-loop-at l = l.others - l.at
