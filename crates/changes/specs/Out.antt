-- The row `out`: how many visits are retracted, how many are added, then the visits, the retracted ones first.
use Rattle.std.specs.Prelude.{◌≡◌, ℕ, ◌+◌, ◌*◌, ◌≤◌, List, [], ◌∷◌, ◌++◌, length, take, drop}
use Rattle.visit.specs.declared.Visit.{Visit}
use Rattle.command.specs.Outcomes.{Outcome, changed, refused}
use Rattle.rows.specs.Out.{out_head}
use Rattle.rows.specs.Rows.{cells_of}
use Rattle.rows.specs.Visits.{visit_cells, visit_width}

abbrev pub change_row : List Visit → List Visit → List ℕ
change_row gone new = length gone ∷ length new ∷ (cells_of visit_cells gone ++ cells_of visit_cells new)

-- The row of an outcome, and how many visits it has. A refusal has none.
abbrev pub outcome_row : Outcome → List ℕ
outcome_row (changed gone new) = change_row gone new
outcome_row (refused r) = []

abbrev pub outcome_count : Outcome → ℕ
outcome_count (changed gone new) = length gone + length new
outcome_count (refused r) = 0

-- A row written over the front of another: everything behind it stays as it was.
abbrev pub overlay : List ℕ → List ℕ → List ℕ
overlay row out = row ++ drop (length row) out

-- `out` with an outcome at its front, and how many visits that has.
pub record OutAfter (o : Outcome) (count : ℕ) (old new : List ℕ) : Type 0 where
  pub many : count ≡ outcome_count o
  pub out : new ≡ overlay (outcome_row o) old

-- `out` has room for its counts and so many visits.
abbrev pub OutHolds : ℕ → List ℕ → Type 0
OutHolds n out = out_head + n * visit_width ≤ length out

-- Visits written to the front of a part of `out`, and how many they are.
pub record PutInFront (vs : List Visit) (count : ℕ) (old new : List ℕ) : Type 0 where
  pub many : count ≡ length vs
  pub cells : new ≡ cells_of visit_cells vs ++ drop (count * visit_width) old

-- `out` with its counts, where k visits retracted stand in it and the ones added are put behind them.
abbrev pub with_added : ℕ → List Visit → List ℕ → List ℕ
with_added k new out =
    k ∷ length new ∷ (take (k * visit_width) (drop out_head out) ++ (cells_of visit_cells new ++ drop ((k + length new) * visit_width) (drop out_head out)))
