-- That forgetting is unseen: what is promised of the store that forgets, against the reference that forgets nothing.
use Rattle.std.specs.Prelude.{◌≡◌, ℕ, ◌≤◌, true, cond, ◌&&◌, List, [], ◌∷◌, length, sum_by, filter, Result, ◌==◌}
use Rattle.std.specs.List.{AllByRecursion}
use Rattle.visit.specs.declared.Line.{Line}
use Rattle.visit.specs.declared.Terms.{Terms}
use Rattle.visit.specs.declared.Visit.{Visit}
use Rattle.visit.specs.Lines.{day_of, line_before}
use Rattle.command.specs.declared.Command.{Command}
use Rattle.command.specs.declared.Refusal.{Refusal}
use Rattle.command.specs.Bounds.{command_fault, terms_fault}
use Rattle.command.specs.Outcomes.{Outcome}
use Rattle.model.specs.Ledger.{totals}
use Rattle.model.specs.Reference.{after, bounded_after, bounded_outcomes, empty, ledger_of, or_fault, outcomes}
use Rattle.model.specs.Store.{Draft, Store, draft, empty_store, store_after, store_by, store_outcome_by, store_outcomes}

-- On any commands the store gives the outcomes of the reference, and its ledger is the ledger of all closed visits.
abbrev pub ForgettingUnseen : Type 0
ForgettingUnseen =
    (t : Terms) (cs : List Command)
    → (store_outcomes t empty_store cs ≡ outcomes t empty cs) × ((store_after t empty_store cs).ledger ≡ ledger_of t (after t empty cs))

-- The store with the bounds of numbers, as the reference has them: terms out of bounds are refused first, then a command out of bounds.
abbrev pub bounded_draft : Terms → Store → Command → Result Draft Refusal
bounded_draft t s c = or_fault (terms_fault t) (or_fault (command_fault c) (draft t s c))

abbrev pub bounded_store_outcomes : Terms → Store → List Command → List Outcome
bounded_store_outcomes t s [] = []
bounded_store_outcomes t s (c ∷ cs) = store_outcome_by t s (bounded_draft t s c) ∷ bounded_store_outcomes t (store_by t s (bounded_draft t s c)) cs

abbrev pub bounded_store_after : Terms → Store → List Command → Store
bounded_store_after t s [] = s
bounded_store_after t s (c ∷ cs) = bounded_store_after t (store_by t s (bounded_draft t s c)) cs

-- So it is with the bounds too.
abbrev pub BoundedUnseen : Type 0
BoundedUnseen =
    (t : Terms) (cs : List Command)
    → (bounded_store_outcomes t empty_store cs ≡ bounded_outcomes t empty cs) × ((bounded_store_after t empty_store cs).ledger ≡ ledger_of t (bounded_after t empty cs))

-- The keys of a ledger rise, and every line has visits.
abbrev pub Lined : Terms → List Line → Type 0
Lined t [] = Unit {0}
Lined t (l ∷ ls) = (1 ≤ l.visits) × AllByRecursion (λ x. line_before t l x ≡ true) ls × Lined t ls

-- The visits of a card that began on a day, and the lines of a ledger for that card and day.
abbrev pub visits_for : Terms → ℕ → ℕ → List Visit → List Visit
visits_for t card day vs = filter (λ v. (v.card == card) && day_of t v.from == day) vs

abbrev pub lines_for : ℕ → ℕ → List Line → List Line
lines_for card day ls = filter (λ l. (l.card == card) && l.day == day) ls

-- The lines that a card and a day should have: none if there are no visits, else one with their number and sum.
abbrev pub entry : ℕ → ℕ → ℕ → ℕ → List Line
entry card day visits sum = cond (visits == 0) [] (record { card = card; day = day; visits = visits; sum = sum } ∷ [])

-- The ledger of visits is in order, and has for each card and day the number and the sum of the visits of that card that began on it.
abbrev pub TotalsRight : Type 0
TotalsRight =
    (t : Terms) (vs : List Visit)
    → Lined t (totals t vs)
    × ((card day : ℕ) → lines_for card day (totals t vs) ≡ entry card day (length (visits_for t card day vs)) (sum_by (λ v. v.sum) (visits_for t card day vs)))
