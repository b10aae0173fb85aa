-- Lists in order: readings that rise, and visits that rise and stand apart.
use Rattle.std.proofs.Common.{◌≡◌, ◌+◌, ◌<◌, ◌≤◌, Bool, true, false, List, [], ◌∷◌, filter, refl, arith}
use Rattle.std.specs.List.{AllByRecursion}
use Rattle.std.proofs.ByRecursion.{all_kept_by, All-weaker}
use Rattle.std.proofs.lemmas.Bool.{or_parts}
use Rattle.std.proofs.lemmas.Bool.Decides.{nat_tests}
use Rattle.visit.specs.declared.Reading.{Reading}
use Rattle.visit.specs.declared.Terms.{Terms}
use Rattle.visit.specs.declared.Visit.{Visit}
use Rattle.visit.specs.Chains.{reading_chained}
use Rattle.visit.specs.Order.{RisingBy}
use Rattle.visit.specs.Readings.{gap_of, reading_before, same_reading}
use Rattle.visit.specs.Visits.{grown, joins, merged, same_visit, single}
use Rattle.command.specs.declared.Command.{Command}
use Rattle.command.specs.declared.Command.TheVariants.{Reading as AReading, Watermark}
use Rattle.model.specs.Reference.{Reference, after, empty, step}
use Rattle.model.specs.Sessions.{contains, insert_reading, prepend, visits}
use Rattle.model.proofs.Common.{Absent, split}

-- Each reading comes before all that follow it.
abbrev pub SortedReadings : Terms → List Reading → Type 0
SortedReadings t xs = RisingBy (reading_before t) xs

-- A reading is not after a visit; a visit is wholly before another, by more than the gap if both are of one card.
abbrev pub NotAfter : Reading → Visit → Type 0
NotAfter x v = (x.card ≤ v.card) × (x.card ≡ v.card → x.time ≤ v.from)

abbrev pub Follows : Terms → Visit → Visit → Type 0
Follows t v w = (v.card ≤ w.card) × (v.card ≡ w.card → v.to + gap_of t v.card < w.from)

-- Visits in order and apart.
abbrev pub Apart : Terms → List Visit → Type 0
Apart t [] = Unit {0}
Apart t (v ∷ vs) = (v.from ≤ v.to) × AllByRecursion (Follows t v) vs × Apart t vs

-- A reading that comes before another is not after its visit, nor is one that does not come after.
pub before_not_after : (t : Terms) (x y : Reading) → reading_before t x y ≡ true → NotAfter x (single y)
unfolding reading_before
before_not_after t x y q = (grind (arith, nat_tests), grind (arith, nat_tests))

pub unpassed_not_after : (t : Terms) (x y : Reading) → reading_before t y x ≡ false → NotAfter x (single y)
unfolding reading_before
unpassed_not_after t x y q = (grind (arith, nat_tests), grind (arith, nat_tests))

pub unpassed_next : (t : Terms) (e x : Reading) → reading_before t x e ≡ false → (y : Reading) → reading_before t x y ≡ true → NotAfter e (single y)
unfolding reading_before
unpassed_next t e x p y q = (grind (arith, nat_tests), grind (arith, nat_tests))

-- Visits of readings that are not before x are not before x.
joined_not_after : (t : Terms) (x y : Reading) (v : Visit) → NotAfter x (single y) → joins t y v ≡ true → x.card ≡ v.card → x.time ≤ y.time
unfolding joins
joined_not_after t x y v h o = grind (arith, nat_tests)

prepend_not_after : (t : Terms) (x y : Reading) (vs : List Visit) → NotAfter x (single y) → AllByRecursion (NotAfter x) vs → AllByRecursion (NotAfter x) (prepend t y vs)
prepend_not_after t x y [] h a = (h, tt)
prepend_not_after t x y (v ∷ vs) h a =
    split (joins t y v)
    (λ o. simp o (let k : NotAfter x (grown y v) = (a.0.0, joined_not_after t x y v h o) in (k, a.1)))
    (λ o. simp o (h, a))

pub visits_not_after : (t : Terms) (x : Reading) (xs : List Reading) → AllByRecursion (λ y. NotAfter x (single y)) xs → AllByRecursion (NotAfter x) (visits t xs)
visits_not_after t x [] a = tt
visits_not_after t x (y ∷ ys) a = prepend_not_after t x y (visits t ys) a.0 (visits_not_after t x ys a.1)

-- A reading that does not join the first visit stands apart from it and from all that follow.
far_follows : (t : Terms) (x : Reading) (v : Visit) → NotAfter x v → joins t x v ≡ false → Follows t (single x) v
unfolding joins
far_follows t x v l q = (l.0, grind (arith, nat_tests))

follows_on : (t : Terms) (x : Reading) (v : Visit) → NotAfter x v → v.from ≤ v.to → (w : Visit) → Follows t v w → Follows t (single x) w
follows_on t x v l h w f = (omega arith, grind arith)

grown_order : (t : Terms) (x : Reading) (v : Visit) → NotAfter x v → v.from ≤ v.to → joins t x v ≡ true → x.time ≤ v.to
unfolding joins
grown_order t x v l h q = grind (arith, nat_tests)

prepend_apart : (t : Terms) (x : Reading) (vs : List Visit) → AllByRecursion (NotAfter x) vs → Apart t vs → Apart t (prepend t x vs)
prepend_apart t x [] a p = (omega arith, tt, tt)
prepend_apart t x (v ∷ vs) a p = grind (arith, nat_tests, All-weaker (Follows t v) (Follows t (single x)) (follows_on t x v a.0 p.0) vs p.1, follows_on t x v a.0 p.0, grown_order, far_follows)

-- The visits of sorted readings are in order and apart.
pub sorted_not_after : (t : Terms) (x : Reading) (xs : List Reading) → AllByRecursion (λ y. reading_before t x y ≡ true) xs → AllByRecursion (NotAfter x) (visits t xs)
sorted_not_after t x xs a = visits_not_after t x xs (All-weaker (λ y. reading_before t x y ≡ true) (λ y. NotAfter x (single y)) (before_not_after t x) xs a)

pub visits_apart : (t : Terms) (xs : List Reading) → SortedReadings t xs → Apart t (visits t xs)
visits_apart t [] s = tt
visits_apart t (x ∷ xs) s = prepend_apart t x (visits t xs) (sorted_not_after t x xs s.0) (visits_apart t xs s.1)

-- In visits that stand apart each is in order itself; so is what is made of one that is.
pub apart_order : (t : Terms) (vs : List Visit) → Apart t vs → AllByRecursion (λ v. v.from ≤ v.to) vs
apart_order t [] p = tt
apart_order t (v ∷ vs) p = (p.0, apart_order t vs p.2)

pub merged_order : (u w : Visit) → u.from ≤ u.to → (merged u w).from ≤ (merged u w).to
merged_order u w h = omega arith

-- What follows a visit follows all that this one follows, and a visit is not among those that follow it.
follows_follows : (t : Terms) (u v : Visit) → Follows t u v → v.from ≤ v.to → (w : Visit) → Follows t v w → Follows t u w
follows_follows t u v f h w g = (omega arith, grind arith)

pub all_follow : (t : Terms) (u v : Visit) (vs : List Visit) → Follows t u v → v.from ≤ v.to → AllByRecursion (Follows t v) vs → AllByRecursion (Follows t u) vs
all_follow t u v vs f h a = All-weaker (Follows t v) (Follows t u) (follows_follows t u v f h) vs a

pub follows_differs : (t : Terms) (v w : Visit) → v.from ≤ v.to → Follows t v w → (same_visit t v w ≡ false) × (same_visit t w v ≡ false)
unfolding same_visit
follows_differs t v w h f = (grind (arith, nat_tests), grind (arith, nat_tests))

pub absent_behind : (t : Terms) (v : Visit) (vs : List Visit) → v.from ≤ v.to → AllByRecursion (Follows t v) vs → Absent t vs v
absent_behind t v [] h a = refl
absent_behind t v (w ∷ ws) h a = simp ((follows_differs t v w h a.0).0, absent_behind t v ws h a.1)

-- Visits that pass a test stand apart if all do.
pub apart_kept : (t : Terms) (p : Visit → Bool) (vs : List Visit) → Apart t vs → Apart t (filter p vs)
apart_kept t p [] a = tt
apart_kept t p (v ∷ vs) a = grind (arith, nat_tests, apart_kept t p vs a.2, all_kept_by p (Follows t v) vs a.1)

-- A new reading put at its place keeps readings sorted.
unpassed_before : (t : Terms) (e x : Reading) → same_reading t e x ≡ false → reading_before t x e ≡ false → reading_before t e x ≡ true
unfolding same_reading reading_before
unpassed_before t e x p q = grind (arith, nat_tests)

pub all_insert : (t : Terms) (P : Reading → Type 0) (e : Reading) (xs : List Reading) → P e → AllByRecursion P xs → AllByRecursion P (insert_reading t e xs)
all_insert t P e [] h a = (h, tt)
all_insert t P e (x ∷ xs) h a = grind (arith, nat_tests, all_insert t P e xs h a.1)

pub insert_sorted : (t : Terms) (e : Reading) (xs : List Reading) → contains t e xs ≡ false → SortedReadings t xs → SortedReadings t (insert_reading t e xs)
insert_sorted t e [] c s = (tt, tt)
insert_sorted t e (x ∷ xs) c s =
    let d = or_parts (same_reading t e x) (contains t e xs) c in
    split (reading_before t x e)
    (λ q. simp q (all_insert t (λ y. reading_before t x y ≡ true) e xs q s.0, insert_sorted t e xs d.1 s.1))
    (λ q. simp q
    (let b = unpassed_before t e x d.0 q in
    ((b, All-weaker (λ y. reading_before t x y ≡ true) (λ y. reading_before t e y ≡ true) (λ y h. reading_chained t e x y b h) xs s.0), s)))

-- Every state of the reference is sorted.
pub step_sorted : (t : Terms) (k : Reference) (c : Command) → SortedReadings t k.readings → SortedReadings t (step t k c).readings
step_sorted t k (AReading e) s = grind (arith, nat_tests, insert_sorted)
step_sorted t k (Watermark m) s = grind (arith, nat_tests)

pub after_sorted : (t : Terms) (k : Reference) (cs : List Command) → SortedReadings t k.readings → SortedReadings t (after t k cs).readings
after_sorted t k [] s = s
after_sorted t k (c ∷ cs) s = after_sorted t (step t k c) cs (step_sorted t k c s)

pub reference_sorted : (t : Terms) (cs : List Command) → SortedReadings t (after t empty cs).readings
reference_sorted t cs = after_sorted t empty cs tt
