-- Near visits as a list.
use Rattle.std.specs.Prelude.{List, []}
use Rattle.visit.specs.declared.Visit.{Visit}
use Rattle.live.specs.declared.near.Near.{Near}
use Rattle.live.specs.declared.near.Near.TheVariants.{Both, Neither, One}

abbrev pub visits_of : Near → List Visit
visits_of Neither = []
visits_of (One vs) = vs
visits_of (Both vs) = vs
