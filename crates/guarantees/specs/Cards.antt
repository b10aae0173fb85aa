-- Cards have nothing to do with each other, in rows of numbers too.
use Rattle.std.specs.Prelude.{◌≡◌, ℕ, Bool, cond, List, [], ◌∷◌, filter}
use Rattle.visit.specs.declared.Terms.{Terms}
use Rattle.visit.specs.declared.Visit.{Visit}
use Rattle.command.specs.Outcomes.{Outcome, changed, refused}
use Rattle.model.specs.Cards.{of_cards}
use Rattle.model.specs.Reference.{closed_of}
use Rattle.model.specs.Store.{Store}
use Rattle.store.specs.Contents.{empty_row, store_in}
use Rattle.command.specs.Cells.{command_in}
use Rattle.guarantees.specs.AnyTime.{reference_now, row_now}
use Rattle.guarantees.specs.Calls.{Call, answer}
use Rattle.guarantees.specs.Following.{outcome_read, outcomes_read}
use Rattle.guarantees.specs.Unhindered.{Unhindered}

-- What some cards have of visits, of an outcome, and of a store.
abbrev pub visits_part : (ℕ → Bool) → List Visit → List Visit
visits_part p vs = filter (λ v. p v.card) vs

abbrev pub outcome_part : (ℕ → Bool) → Outcome → Outcome
outcome_part p (changed gone new) = changed (visits_part p gone) (visits_part p new)
outcome_part p (refused r) = refused r

abbrev pub store_part : (ℕ → Bool) → Store → Store
store_part p s =
    record {
      live = visits_part p s.live;
      seen = filter (λ e. p e.card) s.seen;
      watermark = s.watermark;
      ledger = filter (λ l. p l.card) s.ledger;
    }

-- The calls that some cards have to do with: those of their readings and of watermarks.
abbrev pub concerns : (ℕ → Bool) → Call → Bool
concerns p c = of_cards p (command_in c.command)

abbrev pub calls_part : (ℕ → Bool) → List Call → List Call
calls_part p calls = filter (concerns p) calls

-- What the answers to these calls say of these cards, where all calls are made.
abbrev pub outcomes_part : (ℕ → Bool) → List ℕ → List Call → List Outcome
outcomes_part p xs [] = []
outcomes_part p xs (c ∷ cs) =
    cond (concerns p c) (outcome_part p (outcome_read (answer xs c)) ∷ outcomes_part p (answer xs c).store cs) (outcomes_part p (answer xs c).store cs)

-- Only these calls are made: no reply is 1 or 7 either, each answer says of these cards what it says where all are made, with the same refusals, and
-- closed visits, live visits, kept readings and ledger are these cards' part.
pub record PartAlone (t : Terms) (p : ℕ → Bool) (xs : List ℕ) (calls : List Call) : Type 0 where
  pub unhindered : Unhindered (empty_row t xs) (calls_part p calls)
  pub outcomes : outcomes_read (empty_row t xs) (calls_part p calls) ≡ outcomes_part p (empty_row t xs) calls
  pub closed : closed_of t (reference_now t xs (calls_part p calls)) ≡ visits_part p (closed_of t (reference_now t xs calls))
  pub store : store_in (row_now t xs (calls_part p calls)) ≡ store_part p (store_in (row_now t xs calls))

-- So it is for any predicate on cards wherever no call of the whole run is refused with 1 or 7. Other refusals may be among them.
abbrev pub RowCardsApart : Type 0
RowCardsApart = (t : Terms) (p : ℕ → Bool) (xs : List ℕ) (calls : List Call) → Unhindered (empty_row t xs) calls → PartAlone t p xs calls
