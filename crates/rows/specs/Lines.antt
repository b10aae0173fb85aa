-- A line as a row of four numbers.
use Rattle.std.specs.Prelude.{◌≡◌, ℕ, List, [], ◌∷◌, length, Some, None, Option, slice_index, refl}
use Rattle.std.proofs.Common.{arith}
use Rattle.visit.specs.declared.Line.{Line}
use Rattle.rows.specs.Fields.{fields_taken}
use Rattle.rows.specs.Limits.{count_limit, sum_limit}
use Rattle.rows.specs.Rows.{Laws, holding, rows_in}

abbrev pub line_width : ℕ
line_width = 4

abbrev pub line_made : List ℕ → Line
line_made xs = record { card = slice_index xs 0; day = slice_index xs 1; visits = slice_index xs 2; sum = slice_index xs 3 }

abbrev pub line_cells : Line → List ℕ
line_cells l = l.card ∷ l.day ∷ l.visits ∷ l.sum ∷ []

-- Card and day have no limit here.
abbrev pub line_limits : List (Option ℕ)
line_limits = None ∷ None ∷ Some count_limit ∷ Some sum_limit ∷ []

-- The first n rows of a table as lines, and the numbers of a table that held xs and now holds these lines.
abbrev pub lines_in : ℕ → List ℕ → List Line
lines_in n xs = rows_in line_width line_made n xs

abbrev pub lines_held : ℕ → List Line → List ℕ → List ℕ
lines_held most ls xs = holding line_width line_cells most ls xs

pub line_limited : length line_limits ≡ line_width
line_limited = refl

pub line_laws : Laws line_width line_made line_cells
line_laws = record {
  some = omega arith;
  long = λ r. refl;
  reads = λ r rest. refl;
  back = λ xs h. fields_taken 0 line_width xs h;
}
