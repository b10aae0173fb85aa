use Rattle.std.proofs.Common.{◌≡◌, ◌≤◌}
use Rattle.visit.specs.Lines.{line_before}
use Rattle.visit.specs.Order.{RisingBy}
use Rattle.model.specs.Ledger.{take_visits}
use Rattle.rows.specs.Search.{Allows}
use Rattle.rows.specs.Tables.{Becomes, rows_left, rows_of, rows_seen}
use Rattle.ledger.proofs.taking.take_visits.Given as goal

-- The visits that are left leave of the table what all of them leave of the table as it was.
abbrev pub invariant-loop-visit : goal.invariant-loop-visit
invariant-loop-visit l =
    record {
      order : Allows l.search (RisingBy (line_before l.terms) (rows_of l.table));
      fewer : l.table.len ≤ l.initial.table.len;
      lines : take_visits l.terms (rows_left l.visit-iterator) (rows_of l.table) ≡ take_visits l.terms (rows_seen l.visits) (rows_of l.initial.table);
      after : Becomes l.initial.table l.table l.initial.table.len (rows_of l.table);
    }
