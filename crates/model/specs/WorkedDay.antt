-- A day worked through: what each command brings, and the live visits that the store then has.
use Rattle.std.specs.Prelude.{◌≡◌, ℕ, List, [], ◌∷◌, map}
use Rattle.visit.specs.declared.Line.{Line}
use Rattle.visit.specs.declared.Terms.{Terms}
use Rattle.visit.specs.declared.Visit.{Visit}
use Rattle.command.specs.declared.Command.{Command}
use Rattle.command.specs.declared.Command.TheVariants.{Reading as AReading, Watermark}
use Rattle.command.specs.declared.Refusal.TheVariants.{TooLate, Duplicate, Backwards}
use Rattle.command.specs.Outcomes.{Outcome, changed, refused}
use Rattle.model.specs.Store.{Store, empty_store, store_after, store_outcome, store_outcomes, store_step}

-- A command, what it brings, and the live visits after it.
pub record Row : Type 0 where
  pub command : Command
  pub outcome : Outcome
  pub live : List Visit

-- The rows of a whole list of commands.
abbrev pub rows : Terms → Store → List Command → List Row
rows t s [] = []
rows t s (c ∷ cs) = record { command = c; outcome = store_outcome t s c; live = (store_step t s c).live } ∷ rows t (store_step t s c) cs

-- Gap 10, lateness 30, days of 100.
abbrev pub worked_terms : Terms
worked_terms = record { gap = 10; lateness = 30; day = 100 }

-- Card, time, serial and amount of a reading; card, first and last time, count and sum of a visit.
abbrev pub reading : ℕ → ℕ → ℕ → ℕ → Command
reading c time serial amount = AReading (record { card = c; time = time; serial = serial; amount = amount })

abbrev pub visit : ℕ → ℕ → ℕ → ℕ → ℕ → Visit
visit c from to count sum = record { card = c; from = from; to = to; count = count; sum = sum }

-- The visits of the day, as they grow.
abbrev pub morning : Visit
morning = visit 1 5 12 2 5

abbrev pub longer : Visit
longer = visit 1 5 20 3 6

abbrev pub whole : Visit
whole = visit 1 5 33 5 15

abbrev pub other : Visit
other = visit 2 100 100 2 14

abbrev pub row : Command → Outcome → List Visit → Row
row c o vs = record { command = c; outcome = o; live = vs }

abbrev pub table : List Row
table =
    row (reading 1 5 0 2) (changed [] []) (visit 1 5 5 1 2 ∷ [])
    ∷ row (reading 1 12 0 3) (changed [] []) (morning ∷ [])
    ∷ row (Watermark 40) (changed [] (morning ∷ [])) (morning ∷ [])
    ∷ row (reading 1 20 0 1) (changed (morning ∷ []) (longer ∷ [])) (longer ∷ [])
    ∷ row (reading 1 33 0 4) (changed [] []) (longer ∷ visit 1 33 33 1 4 ∷ [])
    ∷ row (reading 1 27 0 5) (changed (longer ∷ []) []) (whole ∷ [])
    ∷ row (Watermark 44) (changed [] (whole ∷ [])) (whole ∷ [])
    ∷ row (reading 1 9 0 1) (refused (TooLate 9)) (whole ∷ [])
    ∷ row (reading 1 27 0 5) (refused (Duplicate 27)) (whole ∷ [])
    ∷ row (Watermark 43) (refused (Backwards 43)) (whole ∷ [])
    ∷ row (reading 2 100 0 7) (changed [] []) (whole ∷ visit 2 100 100 1 7 ∷ [])
    ∷ row (reading 2 100 1 7) (changed [] []) (whole ∷ other ∷ [])
    ∷ row (Watermark 111) (changed [] (other ∷ [])) (other ∷ [])
    ∷ row (Watermark 120) (changed [] []) (other ∷ [])
    ∷ []

abbrev pub worked_ledger : List Line
worked_ledger = record { card = 1; day = 0; visits = 1; sum = 15 } ∷ record { card = 2; day = 1; visits = 1; sum = 14 } ∷ []

-- A day on the boundaries: exactly the gap apart and one more; closed and expired at exactly their times and one later; exactly the lateness
-- behind and one more; a visit over the end of a day; lines that lose their last visit.
abbrev pub boundary_table : List Row
boundary_table =
    row (reading 1 95 0 1) (changed [] []) (visit 1 95 95 1 1 ∷ [])
    ∷ row (reading 1 105 0 2) (changed [] []) (visit 1 95 105 2 3 ∷ [])
    ∷ row (reading 1 116 0 4) (changed [] []) (visit 1 95 105 2 3 ∷ visit 1 116 116 1 4 ∷ [])
    ∷ row (Watermark 115) (changed [] []) (visit 1 95 105 2 3 ∷ visit 1 116 116 1 4 ∷ [])
    ∷ row (Watermark 116) (changed [] (visit 1 95 105 2 3 ∷ [])) (visit 1 95 105 2 3 ∷ visit 1 116 116 1 4 ∷ [])
    ∷ row (reading 1 86 0 8) (changed (visit 1 95 105 2 3 ∷ []) (visit 1 86 105 3 11 ∷ [])) (visit 1 86 105 3 11 ∷ visit 1 116 116 1 4 ∷ [])
    ∷ row (reading 1 85 0 1) (refused (TooLate 85)) (visit 1 86 105 3 11 ∷ visit 1 116 116 1 4 ∷ [])
    ∷ row (reading 1 106 0 16) (changed (visit 1 86 105 3 11 ∷ []) []) (visit 1 86 116 5 31 ∷ [])
    ∷ row (Watermark 127) (changed [] (visit 1 86 116 5 31 ∷ [])) (visit 1 86 116 5 31 ∷ [])
    ∷ row (Watermark 156) (changed [] []) (visit 1 86 116 5 31 ∷ [])
    ∷ row (Watermark 157) (changed [] []) []
    ∷ row (reading 2 130 0 5) (changed [] (visit 2 130 130 1 5 ∷ [])) (visit 2 130 130 1 5 ∷ [])
    ∷ row (reading 2 140 0 6) (changed (visit 2 130 130 1 5 ∷ []) (visit 2 130 140 2 11 ∷ [])) (visit 2 130 140 2 11 ∷ [])
    ∷ row (reading 2 147 0 7) (changed (visit 2 130 140 2 11 ∷ []) []) (visit 2 130 147 3 18 ∷ [])
    ∷ []

abbrev pub boundary_ledger : List Line
boundary_ledger = record { card = 1; day = 0; visits = 1; sum = 31 } ∷ []

-- The commands of a table give its outcomes and its live visits, row by row, and this ledger at the end.
pub record ComesOut (t : Terms) (table : List Row) (ledger : List Line) : Type 0 where
  pub by_row : rows t empty_store (map (λ r. r.command) table) ≡ table
  pub all_outcomes : store_outcomes t empty_store (map (λ r. r.command) table) ≡ map (λ r. r.outcome) table
  pub at_the_end : (store_after t empty_store (map (λ r. r.command) table)).ledger ≡ ledger

abbrev pub WorkedDay : Type 0
WorkedDay = ComesOut worked_terms table worked_ledger

abbrev pub BoundaryDay : Type 0
BoundaryDay = ComesOut worked_terms boundary_table boundary_ledger
