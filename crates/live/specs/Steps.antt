-- One step of the walk along other visits.
use Rattle.std.specs.Prelude.{cond}
use Rattle.visit.specs.declared.Terms.{Terms}
use Rattle.visit.specs.declared.Visit.{Visit}
use Rattle.visit.specs.Visits.{near, visit_before}
use Rattle.live.specs.declared.steps.Step.{Step}
use Rattle.live.specs.declared.steps.Step.TheVariants.{Take, Pass, Stop}

-- A near visit is taken in, one before the visit is passed, and at any other the walk stops.
abbrev pub step_of : Terms → Visit → Visit → Step
step_of t v w = cond (near t v w) Take (cond (visit_before t w v) Pass Stop)
