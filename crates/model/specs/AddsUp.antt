-- Changes add up: one who only follows the changes has the closed visits.
use Rattle.std.specs.Prelude.{◌≡◌, List, [], ◌∷◌}
use Rattle.std.specs.List.{ContainsAt as Has, AllByRecursion}
use Rattle.visit.specs.declared.Terms.{Terms}
use Rattle.visit.specs.declared.Visit.{Visit}
use Rattle.visit.specs.Visits.{visit_before}
use Rattle.command.specs.declared.Command.{Command}
use Rattle.command.specs.Outcomes.{Outcome, changed, refused}
use Rattle.model.specs.Reference.{after, closed_of, empty, outcomes}
use Rattle.model.specs.Sessions.{at_place, difference}

-- A visit put at its place in the order, and several, one after the other.
abbrev pub put_in : Terms → Visit → List Visit → List Visit
put_in t v vs = at_place (λ w. visit_before t w v) (λ ws. v ∷ ws) vs

abbrev pub put_all_in : Terms → List Visit → List Visit → List Visit
put_all_in t [] vs = vs
put_all_in t (n ∷ ns) vs = put_all_in t ns (put_in t n vs)

-- A list of visits after an outcome: what is retracted is taken out, what is added is put in.
abbrev pub applied_to : Terms → List Visit → Outcome → List Visit
applied_to t vs (changed gone new) = put_all_in t new (difference t vs gone)
applied_to t vs (refused r) = vs

abbrev pub applied_all : Terms → List Visit → List Outcome → List Visit
applied_all t vs [] = vs
applied_all t vs (o ∷ os) = applied_all t (applied_to t vs o) os

-- What is retracted was there, what is added was not.
abbrev pub Sound : List Visit → Outcome → Type 0
Sound vs (changed gone new) = AllByRecursion (Has vs) gone × AllByRecursion (λ v. Has vs v → ⊥) new
Sound vs (refused r) = Unit {0}

abbrev pub AllSound : Terms → List Visit → List Outcome → Type 0
AllSound t vs [] = Unit {0}
AllSound t vs (o ∷ os) = Sound vs o × AllSound t (applied_to t vs o) os

pub record AddsUp (t : Terms) (cs : List Command) : Type 0 where
  pub whole : applied_all t [] (outcomes t empty cs) ≡ closed_of t (after t empty cs)
  pub sound : AllSound t [] (outcomes t empty cs)

abbrev pub ChangesAddUp : Type 0
ChangesAddUp = (t : Terms) (cs : List Command) → AddsUp t cs
