-- What each step of the walk tells of the visit that it comes to.
use Rattle.std.proofs.Common.{◌≡◌, true, false, arith}
use Rattle.visit.specs.declared.Terms.{Terms}
use Rattle.visit.specs.declared.Visit.{Visit}
use Rattle.visit.specs.Visits.{near, visit_before}
use Rattle.live.specs.Steps.{step_of}
use Rattle.live.specs.declared.steps.Step.TheVariants.{Take, Pass, Stop}

pub taken_near : (t : Terms) (v w : Visit) → Take ≡ step_of t v w → near t v w ≡ true
taken_near t v w e = grind arith

pub passed_before : (t : Terms) (v w : Visit) → Pass ≡ step_of t v w → (near t v w ≡ false) × (visit_before t w v ≡ true)
passed_before t v w e = (grind arith, grind arith)

pub stopped_neither : (t : Terms) (v w : Visit) → Stop ≡ step_of t v w → (near t v w ≡ false) × (visit_before t w v ≡ false)
stopped_neither t v w e = (grind arith, grind arith)
