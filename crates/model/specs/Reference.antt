-- The reference: it keeps every reading that was taken in, and works everything out anew at each command.
use Rattle.std.specs.Prelude.{ℕ, cond, List, [], ◌∷◌, Some, None, Ok, Err, Option, Result, nat_lt}
use Rattle.visit.specs.declared.Line.{Line}
use Rattle.visit.specs.declared.Reading.{Reading}
use Rattle.visit.specs.declared.Terms.{Terms}
use Rattle.visit.specs.declared.Visit.{Visit}
use Rattle.visit.specs.Readings.{too_late}
use Rattle.command.specs.declared.Command.{Command}
use Rattle.command.specs.declared.Command.TheVariants.{Reading as AReading, Watermark}
use Rattle.command.specs.declared.Refusal.{Refusal}
use Rattle.command.specs.declared.Refusal.TheVariants.{TooLate, Duplicate, Backwards}
use Rattle.command.specs.Bounds.{command_fault, terms_fault}
use Rattle.command.specs.Outcomes.{Outcome, refused}
use Rattle.model.specs.Ledger.{totals}
use Rattle.model.specs.Sessions.{changes, closed_visits, contains, insert_reading, visits}

-- All readings taken in, in order, and the watermark.
pub record Reference : Type 0 where
  pub readings : List Reading
  pub watermark : ℕ

abbrev pub empty : Reference
empty = record { readings = []; watermark = 0 }

-- What a command comes to: the next state, or a refusal.
abbrev pub plan : Terms → Reference → Command → Result Reference Refusal
plan t k (AReading e) =
    cond (too_late t k.watermark e) (Err (TooLate e.time))
    (cond (contains t e k.readings) (Err (Duplicate e.time))
    (Ok (record { readings = insert_reading t e k.readings; watermark = k.watermark })))
plan t k (Watermark m) = cond (nat_lt m k.watermark) (Err (Backwards m)) (Ok (record { readings = k.readings; watermark = m }))

-- The closed visits, and the ledger of them.
abbrev pub closed_of : Terms → Reference → List Visit
closed_of t k = closed_visits t k.watermark (visits t k.readings)

abbrev pub ledger_of : Terms → Reference → List Line
ledger_of t k = totals t (closed_of t k)

-- The outcome and the state after it, by the plan. A refusal leaves the state as it was.
abbrev pub outcome_by : Terms → Reference → Result Reference Refusal → Outcome
outcome_by t k (Ok next) = changes t (closed_of t k) (closed_of t next)
outcome_by t k (Err r) = refused r

abbrev pub state_by : Reference → Result Reference Refusal → Reference
state_by k (Ok next) = next
state_by k (Err r) = k

abbrev pub outcome : Terms → Reference → Command → Outcome
outcome t k c = outcome_by t k (plan t k c)

abbrev pub step : Terms → Reference → Command → Reference
step t k c = state_by k (plan t k c)

-- A whole list of commands.
abbrev pub outcomes : Terms → Reference → List Command → List Outcome
outcomes t k [] = []
outcomes t k (c ∷ cs) = outcome t k c ∷ outcomes t (step t k c) cs

abbrev pub after : Terms → Reference → List Command → Reference
after t k [] = k
after t k (c ∷ cs) = after t (step t k c) cs

-- With the bounds of numbers: terms out of bounds are refused first, then a command out of bounds.
abbrev pub or_fault : {X : Type 0} → Option Refusal → Result X Refusal → Result X Refusal
or_fault None p = p
or_fault (Some r) p = Err r

abbrev pub bounded_plan : Terms → Reference → Command → Result Reference Refusal
bounded_plan t k c = or_fault (terms_fault t) (or_fault (command_fault c) (plan t k c))

abbrev pub bounded_outcomes : Terms → Reference → List Command → List Outcome
bounded_outcomes t k [] = []
bounded_outcomes t k (c ∷ cs) = outcome_by t k (bounded_plan t k c) ∷ bounded_outcomes t (state_by k (bounded_plan t k c)) cs

abbrev pub bounded_after : Terms → Reference → List Command → Reference
bounded_after t k [] = k
bounded_after t k (c ∷ cs) = bounded_after t (state_by k (bounded_plan t k c)) cs
