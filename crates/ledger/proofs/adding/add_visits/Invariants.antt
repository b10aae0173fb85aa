use Rattle.std.proofs.Common.{◌≡◌, ◌+◌, ◌*◌, ◌≤◌, length}
use Rattle.visit.specs.Lines.{line_before}
use Rattle.visit.specs.Order.{RisingBy}
use Rattle.visit.specs.Sums.{sums}
use Rattle.model.specs.Ledger.{add_visits}
use Rattle.rows.specs.Lines.{line_width}
use Rattle.rows.specs.Search.{Allows}
use Rattle.rows.specs.Tables.{Becomes, rows_left, rows_of, rows_seen}
use Rattle.ledger.specs.Fits.{Fits}
use Rattle.ledger.proofs.adding.add_visits.Given as goal

-- The visits that are left make of the table what all of them make of the table as it was.
abbrev pub invariant-loop-visit : goal.invariant-loop-visit
invariant-loop-visit l =
    record {
      order : Allows l.search (RisingBy (line_before l.terms) (rows_of l.table));
      more : l.initial.table.len ≤ l.table.len;
      room : (l.table.len + length (rows_left l.visit-iterator)) * line_width ≤ length l.initial.table.cells.now;
      fits : Fits (length (rows_left l.visit-iterator)) (sums (rows_left l.visit-iterator)) (rows_of l.table);
      lines : add_visits l.terms (rows_left l.visit-iterator) (rows_of l.table) ≡ add_visits l.terms (rows_seen l.visits) (rows_of l.initial.table);
      after : Becomes l.initial.table l.table l.table.len (rows_of l.table);
    }
