-- The store's row cut into its parts.
use Rattle.std.specs.Prelude.{◌≡◌, ℕ, ◌*◌, List, [], ◌++◌, length, take, drop}
use Rattle.std.specs.List.{between}
use Rattle.rows.specs.Lines.{line_width}
use Rattle.rows.specs.Readings.{reading_width}
use Rattle.rows.specs.Visits.{visit_width}
use Rattle.store.specs.Layout.{header_width, lines_at, lines_room, readings_at, readings_room, store_size, visits_at, visits_room}

pub record Parts : Type 0 where
  pub header : List ℕ
  pub visits : List ℕ
  pub readings : List ℕ
  pub lines : List ℕ
  pub rest : List ℕ

abbrev pub parts : List ℕ → Parts
parts xs =
    record {
      header = take visits_at xs;
      visits = between visits_at readings_at xs;
      readings = between readings_at lines_at xs;
      lines = between lines_at store_size xs;
      rest = drop store_size xs;
    }

abbrev pub whole : Parts → List ℕ
whole p = p.header ++ (p.visits ++ (p.readings ++ (p.lines ++ p.rest)))

-- The parts of a row that ends with the lines, each of the length of its room.
abbrev pub parts_from : (header visits readings lines : List ℕ) → Parts
parts_from h v r l = record { header = h; visits = v; readings = r; lines = l; rest = [] }

pub record Long (p : Parts) : Type 0 where
  pub header : length p.header ≡ header_width
  pub visits : length p.visits ≡ visits_room * visit_width
  pub readings : length p.readings ≡ readings_room * reading_width
  pub lines : length p.lines ≡ lines_room * line_width
