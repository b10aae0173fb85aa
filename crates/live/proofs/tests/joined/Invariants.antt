use Rattle.std.proofs.Common.{◌≡◌, length}
use Rattle.live.specs.Apart.{Apart}
use Rattle.rows.specs.Tables.{rows_of}
use Rattle.live.proofs.tests.joined.Given as goal

abbrev pub invariant-loop-reading : goal.invariant-loop-reading
invariant-loop-reading l =
    record {
      same : l.table.cells.ghost_name ≡ l.initial.table.cells.ghost_name;
      whole : length l.table.cells.now ≡ 21;
      apart : Apart l.terms (rows_of l.table);
    }
