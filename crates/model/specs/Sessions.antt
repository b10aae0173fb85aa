-- Lists of readings, and the visits that they make.
use Rattle.std.specs.Prelude.{ℕ, Bool, cond, not, List, [], ◌∷◌, filter}
use Rattle.std.specs.List.{list_any}
use Rattle.visit.specs.declared.Reading.{Reading}
use Rattle.visit.specs.declared.Terms.{Terms}
use Rattle.visit.specs.declared.Visit.{Visit}
use Rattle.visit.specs.Readings.{reading_before, same_reading}
use Rattle.visit.specs.Visits.{closed, grown, joins, same_visit, single}
use Rattle.command.specs.Outcomes.{Outcome, changed}

-- Whether some element passes a test.
abbrev pub some : {X : Type 0} → (X → Bool) → List X → Bool
some test xs = list_any test xs

-- A reading was taken in already.
abbrev pub contains : Terms → Reading → List Reading → Bool
contains t e xs = some (same_reading t e) xs

-- A list changed at a place: what comes before it is passed, and f changes the rest.
abbrev pub at_place : {X : Type 0} → (X → Bool) → (List X → List X) → List X → List X
at_place before f [] = f []
at_place before f (x ∷ xs) = cond (before x) (x ∷ at_place before f xs) (f (x ∷ xs))

-- A reading put at its place in the order.
abbrev pub insert_reading : Terms → Reading → List Reading → List Reading
insert_reading t e xs = at_place (λ x. reading_before t x e) (λ ys. e ∷ ys) xs

-- A reading put before all others: it joins the first visit or is one of its own.
abbrev pub prepend : Terms → Reading → List Visit → List Visit
prepend t e [] = single e ∷ []
prepend t e (v ∷ vs) = cond (joins t e v) (grown e v ∷ vs) (single e ∷ v ∷ vs)

-- The visits of readings that are in order.
abbrev pub visits : Terms → List Reading → List Visit
visits t [] = []
visits t (e ∷ es) = prepend t e (visits t es)

-- The visits that are closed at the watermark m.
abbrev pub closed_visits : Terms → ℕ → List Visit → List Visit
closed_visits t m vs = filter (closed t m) vs

-- The visits of a list that are not in another.
abbrev pub difference : Terms → List Visit → List Visit → List Visit
difference t vs ws = filter (λ v. not (some (same_visit t v) ws)) vs

-- What has changed: closed before and not now, closed now and not before.
abbrev pub changes : Terms → List Visit → List Visit → Outcome
changes t before now = changed (difference t before now) (difference t now before)
