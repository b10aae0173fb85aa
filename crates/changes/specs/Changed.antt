-- What changes among the closed visits, and by which comparisons it is found.
use Rattle.std.specs.Prelude.{◌≡◌, ℕ, ◌≤◌, Bool, not, ◌&&◌, List, [], ◌∷◌, ◌++◌, take, drop, filter}
use Rattle.visit.specs.declared.Terms.{Terms}
use Rattle.visit.specs.declared.Visit.{Visit}
use Rattle.visit.specs.Visits.{closed, same_visit}
use Rattle.command.specs.Outcomes.{Outcome, changed}
use Rattle.model.specs.Sessions.{changes, closed_visits, some}
use Rattle.model.specs.Store.{merge_in}
use Rattle.live.specs.declared.merging.Placed.{Placed}
use Rattle.live.specs.Walk.{left_over, placed_of, taken_in}

-- The visits stay, and the watermark goes from one time to another.
abbrev pub rise : Terms → ℕ → ℕ → List Visit → Outcome
rise t from to vs = changes t (closed_visits t from vs) (closed_visits t to vs)

-- The watermark m stays, and a visit is merged in.
abbrev pub merging : Terms → ℕ → Visit → List Visit → Outcome
merging t m v vs = changes t (closed_visits t m vs) (closed_visits t m (merge_in t v vs))

-- Closed at the later watermark and not at the earlier one.
abbrev pub newly_closed : Terms → ℕ → ℕ → Visit → Bool
newly_closed t from to v = closed t to v && not (closed t from v)

-- On any visits, in order or not, a watermark that rises retracts nothing and adds what it closes.
abbrev pub OnlyNewlyClosed : Type 0
OnlyNewlyClosed = (t : Terms) (from to : ℕ) (vs : List Visit) → from ≤ to → rise t from to vs ≡ changed [] (filter (newly_closed t from to) vs)

-- Closed, and the same as none of these.
abbrev pub closed_besides : Terms → ℕ → List Visit → Visit → Bool
closed_besides t m ws v = closed t m v && not (some (same_visit t v) ws)

-- A visit has taken in others, and the rows are first those that are left, then those that were taken in. An equal one may remain, so each visit is
-- compared with all that are there on the other side.
abbrev pub retracted_rows : Terms → ℕ → Placed → List Visit → List Visit
retracted_rows t m p rows = filter (closed_besides t m (p.visit ∷ take p.others rows)) (drop p.others rows)

abbrev pub added_rows : Terms → ℕ → Placed → List Visit → List Visit
added_rows t m p rows = filter (closed_besides t m rows) (p.visit ∷ [])

abbrev pub compared : Terms → ℕ → Placed → List Visit → Outcome
compared t m p rows = changed (retracted_rows t m p rows) (added_rows t m p rows)

-- On any visits, in order or not, merging changes just what this comparing finds.
abbrev pub ByComparing : Type 0
ByComparing =
    (t : Terms) (m : ℕ) (v : Visit) (vs : List Visit) (p : Placed) (rows : List Visit)
    → p ≡ placed_of t v vs → rows ≡ left_over t v vs ++ taken_in t v vs → compared t m p rows ≡ merging t m v vs

-- Where visits are in order and apart none stands twice: those that are met were closed or not, and so is z, which they become.
abbrev pub met_changes : Terms → ℕ → Visit → List Visit → Outcome
met_changes t m z met = changed (closed_visits t m met) (closed_visits t m (z ∷ []))
