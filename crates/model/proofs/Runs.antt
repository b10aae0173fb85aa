-- Runs of two lists of commands put together.
use Rattle.std.proofs.Common.{◌≡◌, List, [], ◌∷◌, ◌++◌, refl, ap}
use Rattle.visit.specs.declared.Terms.{Terms}
use Rattle.command.specs.declared.Command.{Command}
use Rattle.model.specs.Reference.{Reference, after, outcome, outcomes, step}
use Rattle.model.specs.Store.{Store, store_after, store_outcome, store_outcomes, store_step}

pub after_append : (t : Terms) (k : Reference) (cs ds : List Command) → after t k (cs ++ ds) ≡ after t (after t k cs) ds
after_append t k [] ds = refl
after_append t k (c ∷ cs) ds = after_append t (step t k c) cs ds

pub outcomes_append : (t : Terms) (k : Reference) (cs ds : List Command) → outcomes t k (cs ++ ds) ≡ outcomes t k cs ++ outcomes t (after t k cs) ds
outcomes_append t k [] ds = refl
outcomes_append t k (c ∷ cs) ds = ap (λ os. outcome t k c ∷ os) (outcomes_append t (step t k c) cs ds)

pub store_after_append : (t : Terms) (s : Store) (cs ds : List Command) → store_after t s (cs ++ ds) ≡ store_after t (store_after t s cs) ds
store_after_append t s [] ds = refl
store_after_append t s (c ∷ cs) ds = store_after_append t (store_step t s c) cs ds

pub store_outcomes_append : (t : Terms) (s : Store) (cs ds : List Command)
    → store_outcomes t s (cs ++ ds) ≡ store_outcomes t s cs ++ store_outcomes t (store_after t s cs) ds
store_outcomes_append t s [] ds = refl
store_outcomes_append t s (c ∷ cs) ds = ap (λ os. store_outcome t s c ∷ os) (store_outcomes_append t (store_step t s c) cs ds)
