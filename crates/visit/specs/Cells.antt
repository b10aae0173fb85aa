-- A reading as a row of four numbers.
use Rattle.std.specs.Prelude.{ℕ, List, [], ◌∷◌, slice_index}
use Rattle.visit.specs.declared.Reading.{Reading}

abbrev pub reading_width : ℕ
reading_width = 4

abbrev pub reading_made : List ℕ → Reading
reading_made xs = record { card = slice_index xs 0; time = slice_index xs 1; serial = slice_index xs 2; amount = slice_index xs 3 }

abbrev pub reading_cells : Reading → List ℕ
reading_cells e = e.card ∷ e.time ∷ e.serial ∷ e.amount ∷ []
