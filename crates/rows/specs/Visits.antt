-- A visit as a row of five numbers.
use Rattle.std.specs.Prelude.{◌≡◌, ℕ, List, [], ◌∷◌, length, Some, None, Option, slice_index, refl}
use Rattle.std.proofs.Common.{arith}
use Rattle.visit.specs.declared.Visit.{Visit}
use Rattle.rows.specs.Fields.{fields_taken}
use Rattle.visit.specs.Limits.{time_limit}
use Rattle.rows.specs.Limits.{count_limit, sum_limit}
use Rattle.rows.specs.Rows.{Laws, holding, rows_in}

abbrev pub visit_width : ℕ
visit_width = 5

abbrev pub visit_made : List ℕ → Visit
visit_made xs = record { card = slice_index xs 0; from = slice_index xs 1; to = slice_index xs 2; count = slice_index xs 3; sum = slice_index xs 4 }

abbrev pub visit_cells : Visit → List ℕ
visit_cells v = v.card ∷ v.from ∷ v.to ∷ v.count ∷ v.sum ∷ []

-- A card has no limit here.
abbrev pub visit_limits : List (Option ℕ)
visit_limits = None ∷ Some time_limit ∷ Some time_limit ∷ Some count_limit ∷ Some sum_limit ∷ []

-- The first n rows of a table as visits, and the numbers of a table that held xs and now holds these visits.
abbrev pub visits_in : ℕ → List ℕ → List Visit
visits_in n xs = rows_in visit_width visit_made n xs

abbrev pub visits_held : ℕ → List Visit → List ℕ → List ℕ
visits_held most vs xs = holding visit_width visit_cells most vs xs

pub visit_limited : length visit_limits ≡ visit_width
visit_limited = refl

pub visit_laws : Laws visit_width visit_made visit_cells
visit_laws = record {
  some = omega arith;
  long = λ r. refl;
  reads = λ r rest. refl;
  back = λ xs h. fields_taken 0 visit_width xs h;
}
