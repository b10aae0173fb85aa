-- Cards have nothing to do with each other: the part of a state that some cards have.
use Rattle.std.proofs.Common.{◌≡◌, ℕ, Bool, true, false, List, [], ◌∷◌, filter, refl, arith}
use Rattle.std.specs.List.{AllByRecursion}
use Rattle.std.proofs.ByRecursion.{all_kept_by, All-weaker}
use Rattle.std.proofs.lemmas.Bool.{both_ways}
use Rattle.visit.specs.declared.Reading.{Reading}
use Rattle.visit.specs.declared.Terms.{Terms}
use Rattle.visit.specs.declared.Visit.{Visit}
use Rattle.visit.specs.Chains.{reading_chained}
use Rattle.visit.specs.Readings.{reading_before, same_reading}
use Rattle.visit.specs.Visits.{closed, joins}
use Rattle.command.specs.declared.Command.{Command}
use Rattle.command.specs.declared.Command.TheVariants.{Reading as AReading, Watermark}
use Rattle.model.specs.Cards.{CardsApart, of_cards}
use Rattle.model.specs.Reference.{Reference, after, closed_of, empty, step}
use Rattle.model.specs.Sessions.{contains, insert_reading, prepend, visits}
use Rattle.model.proofs.Common.{kept_commute}
use Rattle.model.proofs.Order.{Apart, NotAfter, SortedReadings, reference_sorted, sorted_not_after, step_sorted, visits_apart}

-- The readings, the visits and the state of some cards.
abbrev pub readings_by : (ℕ → Bool) → List Reading → List Reading
readings_by p xs = filter (λ e. p e.card) xs

abbrev pub visits_by : (ℕ → Bool) → List Visit → List Visit
visits_by p vs = filter (λ v. p v.card) vs

abbrev pub part_by : (ℕ → Bool) → Reference → Reference
part_by p k = record { readings = readings_by p k.readings; watermark = k.watermark }

-- A reading of these cards is the same as no reading of others.
other_reading : (t : Terms) (a b : Reading) → (a.card ≡ b.card → ⊥) → same_reading t a b ≡ false
unfolding same_reading
other_reading t a b h = grind arith

pub contains_by : (t : Terms) (p : ℕ → Bool) (e : Reading) (xs : List Reading) → p e.card ≡ true → contains t e (readings_by p xs) ≡ contains t e xs
contains_by t p e [] h = refl
contains_by t p e (x ∷ xs) h = grind (arith, contains_by t p e xs h, other_reading)

-- A reading that no reading is before goes to the front.
insert_front : (t : Terms) (e : Reading) (xs : List Reading) → AllByRecursion (λ x. reading_before t x e ≡ false) xs → insert_reading t e xs ≡ e ∷ xs
insert_front t e [] a = refl
insert_front t e (x ∷ xs) a = simp a.0

not_before : (t : Terms) (e x : Reading) → reading_before t x e ≡ false → (y : Reading) → reading_before t x y ≡ true → reading_before t y e ≡ false
not_before t e x h y b = grind (arith, reading_chained)

-- Putting a reading in, and taking the part.
insert_by : (t : Terms) (p : ℕ → Bool) (e : Reading) (xs : List Reading) → SortedReadings t xs → p e.card ≡ true
    → readings_by p (insert_reading t e xs) ≡ insert_reading t e (readings_by p xs)
insert_by t p e [] s h = simp h
insert_by t p e (x ∷ xs) s h = grind (arith, insert_by t p e xs s.1 h, All-weaker, not_before, insert_front)

insert_other : (t : Terms) (p : ℕ → Bool) (e : Reading) (xs : List Reading) → p e.card ≡ false → readings_by p (insert_reading t e xs) ≡ readings_by p xs
insert_other t p e [] h = simp h
insert_other t p e (x ∷ xs) h = grind (arith, insert_other t p e xs h)

-- A visit that a reading joins is of its card.
pub joined_card : (t : Terms) (e : Reading) (v : Visit) → joins t e v ≡ true → e.card ≡ v.card
unfolding joins
joined_card t e v h = grind arith

prepend_by : (t : Terms) (p : ℕ → Bool) (e : Reading) (vs : List Visit) → AllByRecursion (NotAfter e) vs → Apart t vs → p e.card ≡ true
    → visits_by p (prepend t e vs) ≡ prepend t e (visits_by p vs)
prepend_by t p e [] n a h = simp h
prepend_by t p e (v ∷ vs) n a h = grind (arith, joined_card, all_kept_by)

prepend_other : (t : Terms) (p : ℕ → Bool) (e : Reading) (vs : List Visit) → p e.card ≡ false → visits_by p (prepend t e vs) ≡ visits_by p vs
prepend_other t p e [] h = simp h
prepend_other t p e (v ∷ vs) h = grind (arith, joined_card)

pub visits_of_part : (t : Terms) (p : ℕ → Bool) (xs : List Reading) → SortedReadings t xs → visits_by p (visits t xs) ≡ visits t (readings_by p xs)
visits_of_part t p [] s = refl
visits_of_part t p (x ∷ xs) s = grind (arith, visits_of_part t p xs s.1, sorted_not_after t x xs s.0, visits_apart t xs s.1, prepend_by, prepend_other)

pub closed_of_part : (t : Terms) (p : ℕ → Bool) (k : Reference) → SortedReadings t k.readings → visits_by p (closed_of t k) ≡ closed_of t (part_by p k)
closed_of_part t p k s = grind (arith, kept_commute (λ v. p v.card) (closed t k.watermark) (visits t k.readings), visits_of_part t p k.readings s)

-- A command of these cards does to the part what it does to the whole; another does nothing to it.
pub step_by : (t : Terms) (p : ℕ → Bool) (k : Reference) (c : Command) → SortedReadings t k.readings → of_cards p c ≡ true
    → step t (part_by p k) c ≡ part_by p (step t k c)
step_by t p k (AReading e) s h = grind (arith, contains_by t p e k.readings h, insert_by t p e k.readings s h)
step_by t p k (Watermark m) s h = grind arith

pub step_other : (t : Terms) (p : ℕ → Bool) (k : Reference) (c : Command) → of_cards p c ≡ false → part_by p (step t k c) ≡ part_by p k
step_other t p k (AReading e) h = grind (arith, insert_other t p e k.readings h)
step_other t p k (Watermark m) h = absurd (both_ways true h refl)

pub after_part : (t : Terms) (p : ℕ → Bool) (k : Reference) (cs : List Command) → SortedReadings t k.readings
    → part_by p (after t k cs) ≡ after t (part_by p k) (filter (of_cards p) cs)
after_part t p k [] s = refl
after_part t p k (c ∷ cs) s = grind (arith, after_part t p (step t k c) cs (step_sorted t k c s), step_by, step_other)

pub cards_apart : CardsApart
cards_apart t p cs = grind (arith, closed_of_part t p (after t empty cs) (reference_sorted t cs), after_part)
