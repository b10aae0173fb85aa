use Rattle.rows.specs.Tables.{rows_left, rows_seen}
use Rattle.live.specs.Near.{visits_of}
use Rattle.live.proofs.Collecting.{Collected}
use Rattle.live.proofs.gathering.gather_from.Given as goal

abbrev pub invariant-loop-row : goal.invariant-loop-row
invariant-loop-row l =
    (goal.iterator-loop-row).can_next l.row-iterator
    × (goal.iterator-loop-row).is_finite l.row-iterator
    × Collected l.terms l.visit (rows_seen l.fn.rows) (visits_of l.near) l.at (rows_left l.row-iterator)
