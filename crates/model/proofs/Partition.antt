-- Visits are right: every reading is of exactly one visit, and a visit is what its readings make.
use Rattle.std.proofs.Common.{◌≡◌, ℕ, zero, suc, ◌+◌, ◌<◌, ◌≤◌, true, false, cond, List, [], ◌∷◌, length, get_or, count_by, sym, refl, ap, ◌∙◌, subst, arith}
use Rattle.std.specs.List.{AllByRecursion}
use Rattle.std.proofs.ByRecursion.{All-get_or, All-weaker}
use Rattle.std.proofs.lemmas.List.Sums.{sum_by-cons}
use Rattle.std.proofs.lemmas.Bool.Decides.{nat_tests}
use Rattle.visit.specs.declared.Reading.{Reading}
use Rattle.visit.specs.declared.Terms.{Terms}
use Rattle.visit.specs.declared.Visit.{Visit}
use Rattle.visit.specs.Readings.{gap_of}
use Rattle.visit.specs.Visits.{grown, joins, single, visit_before}
use Rattle.model.specs.Reference.{after, empty}
use Rattle.model.specs.Right.{Goes_on, RightVisit, Unbroken, VisitsRight, of_visit, readings_of}
use Rattle.model.specs.Sessions.{prepend, visits}
use Rattle.model.proofs.Common.{kept_agree, kept_none, split}
use Rattle.model.proofs.Order.{Apart, Follows, NotAfter, SortedReadings, reference_sorted, sorted_not_after, visits_apart}
use Rattle.model.proofs.Same.{rising_at}
use Rattle.model.proofs.Adding.{apart_rising}
use Rattle.model.proofs.Cards.{joined_card}

-- How many visits a reading is of.
abbrev pub visits_with : Reading → List Visit → ℕ
visits_with e vs = count_by (λ v. of_visit v e) vs

count_in : (e : Reading) (v : Visit) (vs : List Visit) → of_visit v e ≡ true → visits_with e (v ∷ vs) ≡ 1 + visits_with e vs
count_in e v vs h = grind (arith, nat_tests, sum_by-cons (λ w. cond (of_visit w e) 1 0) v vs)

count_out : (e : Reading) (v : Visit) (vs : List Visit) → of_visit v e ≡ false → visits_with e (v ∷ vs) ≡ visits_with e vs
count_out e v vs h = grind (arith, nat_tests, sum_by-cons (λ w. cond (of_visit w e) 1 0) v vs)

count_none : (e : Reading) (vs : List Visit) → AllByRecursion (λ v. of_visit v e ≡ false) vs → visits_with e vs ≡ 0
count_none e [] a = refl
count_none e (v ∷ vs) a = count_out e v vs a.0 ∙ count_none e vs a.1

-- A reading of a visit is of its card and not after its last time, so it is of none that follow.
of_visit_card : (v : Visit) (e : Reading) → of_visit v e ≡ true → e.card ≡ v.card
of_visit_card v e h = grind (arith, nat_tests)

of_visit_to : (v : Visit) (e : Reading) → of_visit v e ≡ true → e.time ≤ v.to
of_visit_to v e h = grind (arith, nat_tests)

too_early : (t : Terms) (v : Visit) (e : Reading) → e.card ≡ v.card → e.time ≤ v.to → (w : Visit) → Follows t v w → of_visit w e ≡ false
too_early t v e c l w f = grind (arith, nat_tests)

followers_out : (t : Terms) (v : Visit) (e : Reading) (vs : List Visit) → AllByRecursion (Follows t v) vs → e.card ≡ v.card → e.time ≤ v.to → AllByRecursion (λ w. of_visit w e ≡ false) vs
followers_out t v e vs a c l = All-weaker (Follows t v) (λ w. of_visit w e ≡ false) (too_early t v e c l) vs a

-- So a reading that is of one of them is not of the visit that they follow.
not_of_first : (t : Terms) (v : Visit) (e : Reading) (vs : List Visit) → AllByRecursion (Follows t v) vs → visits_with e vs ≡ 1 → of_visit v e ≡ false
not_of_first t v e vs a h =
    split (of_visit v e)
    (λ o. let z = count_none e vs (followers_out t v e vs a (of_visit_card v e o) (of_visit_to v e o)) in absurd (omega arith))
    (λ o. o)

-- A reading is of the visit that it makes alone.
of_single : (e : Reading) → of_visit (single e) e ≡ true
of_single e = grind (arith, nat_tests)

-- A visit's readings go on from an earlier reading within the gap.
goes_on : (g first last time : ℕ) (es : List Reading) → Unbroken g first last es → time ≤ first → first ≤ time + g → Goes_on g time es last
goes_on g first last time [] u a b = absurd u
goes_on g first last time (e ∷ es) u a b = (omega arith, omega arith, u.1)

-- What is right of a visit depends only on the readings that it has.
right_like : (t : Terms) (xs ys : List Reading) (v : Visit) → readings_of v ys ≡ readings_of v xs → RightVisit t xs v → RightVisit t ys v
right_like t xs ys v q r = grind (arith, nat_tests)

right_others : (t : Terms) (e : Reading) (xs : List Reading) (vs : List Visit) → AllByRecursion (λ v. of_visit v e ≡ false) vs → AllByRecursion (RightVisit t xs) vs → AllByRecursion (RightVisit t (e ∷ xs)) vs
right_others t e xs [] a r = tt
right_others t e xs (v ∷ vs) a r = grind (arith, nat_tests, right_others t e xs vs a.1 r.1, right_like)

-- A visit of one reading.
right_single : (t : Terms) (e : Reading) (xs : List Reading) → AllByRecursion (λ x. of_visit (single e) x ≡ false) xs → RightVisit t (e ∷ xs) (single e)
right_single t e xs a = grind (arith, nat_tests, of_single e, kept_none (of_visit (single e)) xs a, sum_by-cons (λ x. x.amount) e [])

-- A visit that grew.
joined_from : (t : Terms) (e : Reading) (v : Visit) → joins t e v ≡ true → v.from ≤ e.time + gap_of t e.card
unfolding joins
joined_from t e v j = grind (arith, nat_tests)

right_grown : (t : Terms) (e : Reading) (xs : List Reading) (v : Visit) → joins t e v ≡ true → e.time ≤ v.from → v.from ≤ v.to
    → AllByRecursion (λ x. of_visit (grown e v) x ≡ of_visit v x) xs → RightVisit t xs v → RightVisit t (e ∷ xs) (grown e v)
right_grown t e xs v j l m a r = grind (arith, nat_tests, joined_card t e v j, kept_agree (of_visit (grown e v)) (of_visit v) xs a, joined_from t e v j, sum_by-cons (λ x. x.amount) e (readings_of v xs), goes_on)

-- The state of the induction: every reading has one visit, every visit is right.
abbrev pub Parted : Terms → List Reading → List Visit → Type 0
Parted t xs vs = AllByRecursion (λ e. visits_with e vs ≡ 1) xs × AllByRecursion (RightVisit t xs) vs

-- A reading put before all others is a visit of its own ..
parted_alone : (t : Terms) (e : Reading) (xs : List Reading) (vs : List Visit) → AllByRecursion (Follows t (single e)) vs → Parted t xs vs → Parted t (e ∷ xs) (single e ∷ vs)
parted_alone t e xs vs a p =
    let out = followers_out t (single e) e vs a refl (omega arith) in
    let mine = count_in e (single e) vs (of_single e) ∙ ap (λ (n : ℕ). 1 + n) (count_none e vs out) in
    let not_mine = All-weaker (λ x. visits_with x vs ≡ 1) (λ x. of_visit (single e) x ≡ false) (λ x h. not_of_first t (single e) x vs a h) xs p.0 in
    let theirs = All-weaker (λ x. visits_with x vs ≡ 1) (λ x. visits_with x (single e ∷ vs) ≡ 1)
    (λ x h. count_out x (single e) vs (not_of_first t (single e) x vs a h) ∙ h) xs p.0 in
    ((mine, theirs), (right_single t e xs not_mine, right_others t e xs vs out p.1))

-- .. or makes the first visit longer, which then has the readings that it had, and this one.
grown_same : (t : Terms) (e : Reading) (v : Visit) (vs : List Visit) → e.time ≤ v.from → AllByRecursion (Follows t v) vs
    → (x : Reading) → visits_with x (v ∷ vs) ≡ 1 → of_visit (grown e v) x ≡ of_visit v x
grown_same t e v vs l a x h =
    split (of_visit v x)
    (λ o. let g : of_visit (grown e v) x ≡ true = grind (arith, nat_tests) in g ∙ sym o)
    (λ o.
    let r : visits_with x vs ≡ 1 = sym (count_out x v vs o) ∙ h in
    not_of_first t (grown e v) x vs a r ∙ sym o)

count_like : (x : Reading) (v w : Visit) (vs : List Visit) → of_visit w x ≡ of_visit v x → visits_with x (w ∷ vs) ≡ visits_with x (v ∷ vs)
count_like x v w vs q = grind (arith, nat_tests, sum_by-cons (λ u. cond (of_visit u x) 1 0) w vs, sum_by-cons (λ u. cond (of_visit u x) 1 0) v vs)

parted_grown : (t : Terms) (e : Reading) (xs : List Reading) (v : Visit) (vs : List Visit) → joins t e v ≡ true → NotAfter e v → Apart t (v ∷ vs)
    → Parted t xs (v ∷ vs) → Parted t (e ∷ xs) (grown e v ∷ vs)
parted_grown t e xs v vs j n a p =
    let c = joined_card t e v j in
    let l : e.time ≤ v.from = n.1 c in
    let m = a.0 in
    let k : e.time ≤ v.to = omega arith in
    let here : of_visit (grown e v) e ≡ true = grind (arith, nat_tests) in
    let out = followers_out t v e vs a.1 c k in
    let same = grown_same t e v vs l a.1 in
    let agree = All-weaker (λ x. visits_with x (v ∷ vs) ≡ 1) (λ x. of_visit (grown e v) x ≡ of_visit v x) same xs p.0 in
    let mine = count_in e (grown e v) vs here ∙ ap (λ (i : ℕ). 1 + i) (count_none e vs out) in
    let theirs = All-weaker (λ x. visits_with x (v ∷ vs) ≡ 1) (λ x. visits_with x (grown e v ∷ vs) ≡ 1) (λ x h. count_like x v (grown e v) vs (same x h) ∙ h) xs p.0 in
    ((mine, theirs), (right_grown t e xs v j l m agree p.1.0, right_others t e xs vs out p.1.1))

parted_prepend : (t : Terms) (e : Reading) (xs : List Reading) (vs : List Visit) → AllByRecursion (NotAfter e) vs → Apart t vs → Apart t (prepend t e vs) → Parted t xs vs
    → Parted t (e ∷ xs) (prepend t e vs)
parted_prepend t e xs [] n a b p = parted_alone t e xs [] tt p
parted_prepend t e xs (v ∷ vs) n a b p =
    split (joins t e v)
    (λ j.
    let q : prepend t e (v ∷ vs) ≡ grown e v ∷ vs = simp j in
    subst (λ (ws : List Visit). Parted t (e ∷ xs) ws) (sym q) (parted_grown t e xs v vs j n.0 a p))
    (λ j.
    let q : prepend t e (v ∷ vs) ≡ single e ∷ v ∷ vs = simp j in
    let c : Apart t (single e ∷ v ∷ vs) = subst (λ (ws : List Visit). Apart t ws) q b in
    subst (λ (ws : List Visit). Parted t (e ∷ xs) ws) (sym q) (parted_alone t e xs (v ∷ vs) c.1 p))

pub visits_parted : (t : Terms) (xs : List Reading) → SortedReadings t xs → Parted t xs (visits t xs)
visits_parted t [] s = (tt, tt)
visits_parted t (x ∷ xs) s =
    parted_prepend t x xs (visits t xs) (sorted_not_after t x xs s.0) (visits_apart t xs s.1) (visits_apart t (x ∷ xs) s) (visits_parted t xs s.1)

-- Two visits of a card, by their places.
pub apart_at : (t : Terms) (vs : List Visit) → Apart t vs → (i j : ℕ) (d : Visit) → i < j → j < length vs → (get_or vs i d).card ≡ (get_or vs j d).card
    → (get_or vs i d).to + gap_of t (get_or vs i d).card < (get_or vs j d).from
apart_at t [] a i j d l h c = absurd (omega arith)
apart_at t (v ∷ vs) a i zero d l h c = absurd (omega arith)
apart_at t (v ∷ vs) a zero (suc j) d l h c = grind (arith, Follows t v, All-get_or)
apart_at t (v ∷ vs) a (suc i) (suc j) d l h c = apart_at t vs a.2 i j d (omega arith) (omega arith) c

pub visits_right : VisitsRight
visits_right t cs =
    let xs = (after t empty cs).readings in
    let s = reference_sorted t cs in
    let p = visits_parted t xs s in
    let a = visits_apart t xs s in
    record {
      one = p.0;
      each = p.1;
      in_order = rising_at (visit_before t) (visits t xs) (apart_rising t (visits t xs) a);
      apart = apart_at t (visits t xs) a;
    }
