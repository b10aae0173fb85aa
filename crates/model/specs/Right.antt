-- Visits are right: what they say is so of the readings that were taken in.
use Rattle.std.specs.Prelude.{◌≡◌, ℕ, ◌+◌, ◌<◌, ◌≤◌, Bool, true, ◌&&◌, List, [], ◌∷◌, length, get_or, sum_by, count_by, filter, ◌==◌, nat_le, slice_index_or}
use Rattle.std.specs.List.{AllByRecursion}
use Rattle.visit.specs.declared.Reading.{Reading}
use Rattle.visit.specs.declared.Terms.{Terms}
use Rattle.visit.specs.declared.Visit.{Visit}
use Rattle.visit.specs.Readings.{gap_of}
use Rattle.visit.specs.Visits.{visit_before}
use Rattle.command.specs.declared.Command.{Command}
use Rattle.model.specs.Reference.{after, empty}
use Rattle.model.specs.Sessions.{visits}

-- A reading is of a visit if it is of its card and within its times.
abbrev pub of_visit : Visit → Reading → Bool
of_visit v e = e.card == v.card && (nat_le v.from e.time && nat_le e.time v.to)

abbrev pub readings_of : Visit → List Reading → List Reading
readings_of v xs = filter (of_visit v) xs

-- Readings that go on from a time to a last one, each at most the gap g after the one before.
abbrev pub Goes_on : ℕ → ℕ → List Reading → ℕ → Type 0
Goes_on g time [] last = time ≡ last
Goes_on g time (e ∷ es) last = (time ≤ e.time) × (e.time ≤ time + g) × Goes_on g e.time es last

-- Readings from a first time to a last with no pause longer than the gap.
abbrev pub Unbroken : ℕ → ℕ → ℕ → List Reading → Type 0
Unbroken g first last [] = ⊥
Unbroken g first last (e ∷ es) = (e.time ≡ first) × Goes_on g e.time es last

-- A visit is right: its readings are unbroken from its first time to its last, and it has their count and sum.
pub record RightVisit (t : Terms) (xs : List Reading) (v : Visit) : Type 0 where
  pub unbroken : Unbroken (gap_of t v.card) v.from v.to (readings_of v xs)
  pub count : v.count ≡ length (readings_of v xs)
  pub sum : v.sum ≡ sum_by (λ e. e.amount) (readings_of v xs)

-- Every reading is of exactly one visit, each visit is right, they are in order, and two of a card are more than the gap apart.
pub record Right (t : Terms) (xs : List Reading) (vs : List Visit) : Type 0 where
  pub one : AllByRecursion (λ e. count_by (λ v. of_visit v e) vs ≡ 1) xs
  pub each : AllByRecursion (RightVisit t xs) vs
  pub in_order : (i j : ℕ) (d : Visit) → i < j → j < length vs → visit_before t (slice_index_or vs i d) (slice_index_or vs j d) ≡ true
  pub apart :
      (i j : ℕ) (d : Visit) → i < j → j < length vs → (get_or vs i d).card ≡ (get_or vs j d).card
      → (get_or vs i d).to + gap_of t (get_or vs i d).card < (get_or vs j d).from

abbrev pub VisitsRight : Type 0
VisitsRight = (t : Terms) (cs : List Command) → Right t (after t empty cs).readings (visits t (after t empty cs).readings)
