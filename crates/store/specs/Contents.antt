-- What a row of numbers holds as a store, and the row that holds a store.
use Rattle.std.specs.Prelude.{ℕ, ◌*◌, max, List, length, drop, replicate}
use Rattle.visit.specs.declared.Terms.{Terms}
use Rattle.model.specs.Store.{Draft, Store, empty_store}
use Rattle.rows.specs.Lines.{line_cells, line_made, line_width}
use Rattle.rows.specs.Readings.{reading_cells, reading_made, reading_width}
use Rattle.rows.specs.Rows.{holding, rows_in}
use Rattle.rows.specs.Visits.{visit_cells, visit_made, visit_width}
use Rattle.store.specs.declared.header.Header.{Header}
use Rattle.store.specs.Header.{header_cells, header_made}
use Rattle.store.specs.Layout.{lines_room, readings_room, store_size, visits_room}
use Rattle.store.specs.Parts.{Parts, parts, whole}

-- The store that stands in the parts of a row under this header.
abbrev pub store_of : Header → Parts → Store
store_of h p =
    record {
      live = rows_in visit_width visit_made h.visits p.visits;
      seen = rows_in reading_width reading_made h.readings p.readings;
      watermark = h.clock.watermark;
      ledger = rows_in line_width line_made h.lines p.lines;
    }

abbrev pub header_in : List ℕ → Header
header_in xs = header_made xs

abbrev pub terms_in : List ℕ → Terms
terms_in xs = (header_in xs).clock.terms

abbrev pub store_in : List ℕ → Store
store_in xs = store_of (header_in xs) (parts xs)

-- The header of a store.
abbrev pub header_of : Terms → Store → Header
header_of t s =
    record { clock = record { terms = t; watermark = s.watermark }; visits = length s.live; readings = length s.seen; lines = length s.ledger }

-- The parts after a command: each table has its new rows, then 0 up to the most rows that it had on the way, then what stood there before.
-- Live visits and kept readings are most before anything expires; lines are taken away before others are added.
abbrev pub parts_after : Header → Draft → Store → Parts → Parts
parts_after h d s p =
    record {
      header = header_cells (header_of h.clock.terms s);
      visits = holding visit_width visit_cells (max h.visits (length d.live)) s.live p.visits;
      readings = holding reading_width reading_cells (max h.readings (length d.seen)) s.seen p.readings;
      lines = holding line_width line_cells (max h.lines (length s.ledger)) s.ledger p.lines;
      rest = p.rest;
    }

abbrev pub row_after : List ℕ → Draft → Store → List ℕ
row_after xs d s = whole (parts_after (header_in xs) d s (parts xs))

-- An empty store in a row: the terms as they are given, and 0 at every other place of the layout.
abbrev pub empty_parts : Terms → List ℕ → Parts
empty_parts t rest =
    record {
      header = header_cells (header_of t empty_store);
      visits = replicate (visits_room * visit_width) 0;
      readings = replicate (readings_room * reading_width) 0;
      lines = replicate (lines_room * line_width) 0;
      rest = rest;
    }

abbrev pub empty_row : Terms → List ℕ → List ℕ
empty_row t xs = whole (empty_parts t (drop store_size xs))
