-- What a command brings: the visits retracted and added, or a refusal.
use Rattle.std.specs.Prelude.{◌+◌, List, length, Ok, Err, vec_items, Result}
use Rattle.visit.specs.declared.Visit.{Visit}
use Rattle.command.specs.declared.Changes.{Changes}
use Rattle.command.specs.declared.Refusal.{Refusal}
use Rattle.command.specs.Numbers.{Reply}

pub data Outcome : Type 0 where
  changed : List Visit → List Visit → Outcome  -- retracted, added
  refused : Refusal → Outcome

-- An owned answer as an outcome.
abbrev pub outcome_of : Result Changes Refusal → Outcome
outcome_of (Ok d) = changed (vec_items d.retracted) (vec_items d.added)
outcome_of (Err r) = refused r

-- The reply to a command tells how many visits changed.
abbrev pub reply_of : Outcome → Reply
reply_of (changed gone new) = Ok (length gone + length new)
reply_of (refused r) = Err r
