-- A reading as a row of four numbers.
use Rattle.std.specs.Prelude.{◌≡◌, ℕ, List, [], ◌∷◌, length, Some, None, Option, refl}
use Rattle.std.proofs.Common.{arith}
use Rattle.visit.specs.declared.Reading.{Reading}
pub use Rattle.visit.specs.Cells.{reading_width, reading_made, reading_cells}
use Rattle.rows.specs.Fields.{fields_taken}
use Rattle.visit.specs.Limits.{time_limit}
use Rattle.rows.specs.Rows.{Laws, holding, rows_in}

-- Card, serial and amount have no limit here.
abbrev pub reading_limits : List (Option ℕ)
reading_limits = None ∷ Some time_limit ∷ None ∷ None ∷ []

-- The first n rows of a table as readings, and the numbers of a table that held xs and now holds these readings.
abbrev pub readings_in : ℕ → List ℕ → List Reading
readings_in n xs = rows_in reading_width reading_made n xs

abbrev pub readings_held : ℕ → List Reading → List ℕ → List ℕ
readings_held most es xs = holding reading_width reading_cells most es xs

pub reading_limited : length reading_limits ≡ reading_width
reading_limited = refl

pub reading_laws : Laws reading_width reading_made reading_cells
reading_laws = record {
  some = omega arith;
  long = λ r. refl;
  reads = λ r rest. refl;
  back = λ xs h. fields_taken 0 reading_width xs h;
}
