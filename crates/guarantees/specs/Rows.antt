-- The row that holds a store and nothing else.
use Rattle.std.specs.Prelude.{ℕ, ◌-◌, ◌*◌, ◌≤◌, List, ◌++◌, length, replicate}
use Rattle.visit.specs.declared.Terms.{Terms}
use Rattle.model.specs.Store.{Store}
use Rattle.rows.specs.Lines.{line_cells, line_width}
use Rattle.rows.specs.Readings.{reading_cells, reading_width}
use Rattle.rows.specs.Rows.{cells_of}
use Rattle.rows.specs.Visits.{visit_cells, visit_width}
use Rattle.store.specs.Contents.{header_of}
use Rattle.store.specs.Header.{header_cells}
use Rattle.store.specs.Layout.{lines_room, readings_room, visits_room}
use Rattle.store.specs.Parts.{Parts, whole}

-- A table with room for so many rows of width w: the rows that it has, and then only 0.
abbrev pub table : {R : Type 0} → ℕ → (R → List ℕ) → ℕ → List R → List ℕ
table w cells room rs = cells_of cells rs ++ replicate ((room - length rs) * w) 0

abbrev pub clean_parts : Terms → Store → List ℕ → Parts
clean_parts t s rest =
    record {
      header = header_cells (header_of t s);
      visits = table visit_width visit_cells visits_room s.live;
      readings = table reading_width reading_cells readings_room s.seen;
      lines = table line_width line_cells lines_room s.ledger;
      rest = rest;
    }

abbrev pub clean_row : Terms → Store → List ℕ → List ℕ
clean_row t s rest = whole (clean_parts t s rest)

-- A store has no more rows than there is room for.
pub record Fits (s : Store) : Type 0 where
  pub visits : length s.live ≤ visits_room
  pub readings : length s.seen ≤ readings_room
  pub lines : length s.ledger ≤ lines_room
