-- A visit merged into visits that are in order and apart.
use Rattle.std.proofs.Common.{◌≡◌, ◌≤◌, true, false, cond, List, [], ◌∷◌, ◌++◌, length, sym, refl, ap, ◌∙◌, arith}
use Rattle.std.specs.List.{AllByRecursion}
use Rattle.std.proofs.ByRecursion.{All-weaker}
use Rattle.std.proofs.lemmas.Bool.{cond-false, cond-true}
use Rattle.std.proofs.lemmas.Bool.Decides.{nat_tests}
use Rattle.visit.specs.declared.Reading.{Reading}
use Rattle.visit.specs.declared.Terms.{Terms}
use Rattle.visit.specs.declared.Visit.{Visit}
use Rattle.visit.specs.Readings.{reading_before}
use Rattle.visit.specs.Visits.{grown, joins, merged, near, single, visit_before}
use Rattle.model.specs.Sessions.{insert_reading, prepend, visits}
use Rattle.model.specs.Few.{merged_with, near_ones}
use Rattle.model.specs.Store.{merge_in}
use Rattle.model.proofs.Common.{all_both, kept_agree, kept_none, same_parts, split}
use Rattle.model.proofs.Order.{Apart, Follows, NotAfter, SortedReadings, all_follow, apart_order, before_not_after, merged_order, sorted_not_after, unpassed_next, unpassed_not_after, visits_apart, visits_not_after}

-- A reading x that is not after a visit u, as a visit of its own: near to u if it joins u, else before u.
near_joins : (t : Terms) (x : Reading) (u : Visit) → NotAfter x u → u.from ≤ u.to → near t u (single x) ≡ joins t x u
unfolding near joins
near_joins t x u l h = grind (arith, nat_tests)

single_near : (t : Terms) (x : Reading) (u : Visit) → NotAfter x u → u.from ≤ u.to → near t (single x) u ≡ joins t x u
unfolding near joins
single_near t x u l h = grind (arith, nat_tests)

far_before : (t : Terms) (x : Reading) (u : Visit) → NotAfter x u → joins t x u ≡ false → visit_before t (single x) u ≡ true
unfolding visit_before joins
far_before t x u l o = grind (arith, nat_tests)

not_before : (t : Terms) (x : Reading) (u : Visit) → NotAfter x u → visit_before t u (single x) ≡ false
unfolding visit_before
not_before t x u l = grind (arith, nat_tests)

joined_time : (t : Terms) (x : Reading) (u : Visit) → NotAfter x u → u.from ≤ u.to → joins t x u ≡ true → (x.card ≡ u.card) × (x.time ≤ u.from) × (x.time ≤ u.to)
unfolding joins
joined_time t x u l h o = (grind (arith, nat_tests), grind (arith, nat_tests), grind (arith, nat_tests))

merged_single : (t : Terms) (x : Reading) (u : Visit) → NotAfter x u → u.from ≤ u.to → joins t x u ≡ true → merged u (single x) ≡ grown x u
merged_single t x u l h o = grind (arith, nat_tests, joined_time t x u l h o, same_parts)

single_merged : (t : Terms) (x : Reading) (u : Visit) → NotAfter x u → u.from ≤ u.to → joins t x u ≡ true → merged (single x) u ≡ grown x u
single_merged t x u l h o = grind (arith, nat_tests, joined_time t x u l h o, same_parts)

-- What stands apart from a visit stays as it is.
follows_far : (t : Terms) (u v : Visit) → u.from ≤ u.to → v.from ≤ v.to → Follows t u v → (near t u v ≡ false) × (visit_before t v u ≡ false)
unfolding near visit_before
follows_far t u v h k f = (grind (arith, nat_tests), grind (arith, nat_tests))

pub merge_apart : (t : Terms) (u : Visit) (vs : List Visit) → u.from ≤ u.to → AllByRecursion (Follows t u) vs → Apart t vs → merge_in t u vs ≡ u ∷ vs
merge_apart t u [] h a p = refl
merge_apart t u (v ∷ vs) h a p = grind (arith, follows_far t u v h p.0 a.0)

-- A reading that joins the visit that is merged.
-- what is near stays near to a visit with a longer front
grown_near : (t : Terms) (x : Reading) (w v : Visit) → joins t x w ≡ true → NotAfter x v → v.from ≤ v.to → near t w v ≡ true → near t (grown x w) v ≡ true
unfolding near joins
grown_near t x w v o l h n = grind (arith, nat_tests)

joins_merged : (t : Terms) (x : Reading) (w v : Visit) → joins t x w ≡ true → near t w v ≡ true → joins t x (merged w v) ≡ true
unfolding near joins
joins_merged t x w v o n = grind (arith, nat_tests)

joins_merged_right : (t : Terms) (x : Reading) (w v : Visit) → joins t x v ≡ true → near t w v ≡ true → joins t x (merged w v) ≡ true
unfolding near joins
joins_merged_right t x w v o n = grind (arith, nat_tests)

-- a visit that is passed is too far in front for any reading that joins
grown_unpassed : (t : Terms) (x : Reading) (w v : Visit) → joins t x w ≡ true → NotAfter x v → v.from ≤ v.to → w.from ≤ w.to → near t w v ≡ false → visit_before t v w ≡ false
unfolding near joins visit_before
grown_unpassed t x w v o l h k n = grind (arith, nat_tests)

grown_far : (t : Terms) (x : Reading) (w v : Visit) → joins t x w ≡ true → NotAfter x v → v.from ≤ v.to → w.from ≤ w.to → near t w v ≡ false → near t (grown x w) v ≡ false
unfolding near joins
grown_far t x w v o l h k n = grind (arith, nat_tests)

grown_stops : (t : Terms) (x : Reading) (w v : Visit) → joins t x w ≡ true → NotAfter x v → visit_before t v (grown x w) ≡ false
unfolding joins visit_before
grown_stops t x w v o l = grind (arith, nat_tests)

grown_merged : (t : Terms) (x : Reading) (w v : Visit) → joins t x w ≡ true → near t w v ≡ true → NotAfter x v → merged (grown x w) v ≡ grown x (merged w v)
unfolding joins near
grown_merged t x w v o n l = grind (arith, nat_tests, same_parts)

joins_through : (t : Terms) (x : Reading) (w : Visit) (vs : List Visit) → joins t x w ≡ true → w.from ≤ w.to → AllByRecursion (NotAfter x) vs → Apart t vs
    → prepend t x (merge_in t w vs) ≡ merge_in t (grown x w) vs
joins_through t x w [] o h a p = simp o
joins_through t x w (v ∷ vs) o h a p =
    split (near t w v)
    (λ n. simp (n, grown_near t x w v o a.0 p.0 n, grown_merged t x w v o n a.0)
    (joins_through t x (merged w v) vs (joins_merged t x w v o n) (merged_order w v h) a.1 p.2))
    (λ n. simp (n, grown_unpassed t x w v o a.0 p.0 h n, grown_far t x w v o a.0 p.0 h n, grown_stops t x w v o a.0, o))

-- A reading that is far from the visit that is merged and from all others.
far_merged : (t : Terms) (x : Reading) (w v : Visit) → joins t x w ≡ false → joins t x v ≡ false → near t w v ≡ true → joins t x (merged w v) ≡ false
unfolding near joins
far_merged t x w v o k n = grind (arith, nat_tests)

far_through : (t : Terms) (x : Reading) (w : Visit) (vs : List Visit) → joins t x w ≡ false → AllByRecursion (λ v. joins t x v ≡ false) vs
    → prepend t x (merge_in t w vs) ≡ single x ∷ merge_in t w vs
far_through t x w [] o a = simp o
far_through t x w (v ∷ vs) o a =
    split (near t w v)
    (λ n. simp n (far_through t x (merged w v) vs (far_merged t x w v o a.0 n) a.1))
    (λ n. split (visit_before t v w) (λ b. simp (n, b, a.0)) (λ b. simp (n, b, o)))

-- A reading that joins the first of the visits into which one is merged.
near_grown : (t : Terms) (x : Reading) (u v : Visit) → NotAfter x u → u.from ≤ u.to → joins t x v ≡ true → near t u v ≡ true → near t u (grown x v) ≡ true
unfolding near joins
near_grown t x u v l h o n = grind (arith, nat_tests)

merged_grown : (t : Terms) (x : Reading) (u v : Visit) → NotAfter x u → joins t x v ≡ true → near t u v ≡ true → merged u (grown x v) ≡ grown x (merged u v)
unfolding joins near
merged_grown t x u v l o n = grind (arith, nat_tests, same_parts)

follows_unjoined : (t : Terms) (x : Reading) (v : Visit) → NotAfter x v → v.from ≤ v.to → (w : Visit) → Follows t v w → joins t x w ≡ false
unfolding joins
follows_unjoined t x v l h w f = grind (arith, nat_tests)

passed_grown_far : (t : Terms) (x : Reading) (u v : Visit) → v.from ≤ v.to → u.from ≤ u.to → near t u v ≡ false → visit_before t v u ≡ true → near t u (grown x v) ≡ false
unfolding near visit_before
passed_grown_far t x u v h k n b = grind (arith, nat_tests)

passed_grown : (t : Terms) (x : Reading) (u v : Visit) → NotAfter x v → joins t x v ≡ true → visit_before t v u ≡ true → visit_before t (grown x v) u ≡ true
unfolding joins visit_before
passed_grown t x u v l o b = grind (arith, nat_tests)

joined_passed : (t : Terms) (x : Reading) (u v : Visit) → NotAfter x u → u.from ≤ u.to → v.from ≤ v.to → joins t x v ≡ true → near t u v ≡ false → visit_before t v u ≡ true
unfolding joins near visit_before
joined_passed t x u v l h k o n = grind (arith, nat_tests)

front_joined : (t : Terms) (x : Reading) (u v : Visit) (vs : List Visit) → NotAfter x u → u.from ≤ u.to → AllByRecursion (NotAfter x) (v ∷ vs) → Apart t (v ∷ vs) → joins t x v ≡ true
    → prepend t x (merge_in t u (v ∷ vs)) ≡ merge_in t u (grown x v ∷ vs)
front_joined t x u v vs l h a p o = grind (arith, nat_tests, merged_order u v h, near_grown, merged_grown, joins_through, joins_merged_right, joined_passed, passed_grown_far, passed_grown)

-- A reading that does not join the first visit joins none of them.
front_far : (t : Terms) (x : Reading) (u v : Visit) (vs : List Visit) → u.from ≤ u.to → AllByRecursion (NotAfter x) (v ∷ vs) → Apart t (v ∷ vs) → joins t x v ≡ false
    → prepend t x (merge_in t u (v ∷ vs)) ≡ cond (joins t x u) (merge_in t (grown x u) (v ∷ vs)) (single x ∷ merge_in t u (v ∷ vs))
front_far t x u v vs h a p o =
    let far = All-weaker (Follows t v) (λ w. joins t x w ≡ false) (follows_unjoined t x v a.0 p.0) vs p.1 in
    split (joins t x u)
    (λ j. joins_through t x u (v ∷ vs) j h a p ∙ sym (cond-true (joins t x u) (merge_in t (grown x u) (v ∷ vs)) (single x ∷ merge_in t u (v ∷ vs)) j))
    (λ j. far_through t x u (v ∷ vs) j (o, far) ∙ sym (cond-false (joins t x u) (merge_in t (grown x u) (v ∷ vs)) (single x ∷ merge_in t u (v ∷ vs)) j))

single_first : (t : Terms) (x : Reading) (u : Visit) (vs : List Visit) → NotAfter x u → u.from ≤ u.to
    → merge_in t u (single x ∷ vs) ≡ cond (joins t x u) (merge_in t (grown x u) vs) (single x ∷ merge_in t u vs)
single_first t x u vs l h = grind (arith, nat_tests, near_joins t x u l h, merged_single, far_before)

-- A reading in front of all may be put there before or after the merging.
pub front_merge : (t : Terms) (x : Reading) (u : Visit) (vs : List Visit) → NotAfter x u → u.from ≤ u.to → AllByRecursion (NotAfter x) vs → Apart t vs
    → prepend t x (merge_in t u vs) ≡ merge_in t u (prepend t x vs)
front_merge t x u [] l h a p = sym (single_first t x u [] l h)
front_merge t x u (v ∷ vs) l h a p = grind (arith, nat_tests, single_first t x u (v ∷ vs) l h, front_joined, front_far)

-- A reading in front of all is merged as it is put there.
prepend_merges : (t : Terms) (e : Reading) (vs : List Visit) → AllByRecursion (NotAfter e) vs → Apart t vs → prepend t e vs ≡ merge_in t (single e) vs
prepend_merges t e [] a p = refl
prepend_merges t e (v ∷ vs) a p =
    split (joins t e v)
    (λ o. simp (single_near t e v a.0 p.0, o, single_merged t e v a.0 p.0 o)
    (sym (merge_apart t (grown e v) vs (joined_time t e v a.0 p.0 o).2 p.1 p.2)))
    (λ o. simp (single_near t e v a.0 p.0, o, not_before t e v a.0))

unpassed_all_readings : (t : Terms) (e x : Reading) (xs : List Reading) → reading_before t x e ≡ false → SortedReadings t (x ∷ xs) → AllByRecursion (λ y. NotAfter e (single y)) (x ∷ xs)
unpassed_all_readings t e x xs q s =
    (unpassed_not_after t e x q, All-weaker (λ y. reading_before t x y ≡ true) (λ y. NotAfter e (single y)) (unpassed_next t e x q) xs s.0)

-- To put a reading among others is to merge its visit into theirs.
pub insert_merges : (t : Terms) (e : Reading) (xs : List Reading) → SortedReadings t xs → visits t (insert_reading t e xs) ≡ merge_in t (single e) (visits t xs)
insert_merges t e [] s = refl
insert_merges t e (x ∷ xs) s = grind (arith, nat_tests, front_merge t x (single e) (visits t xs), visits_not_after t e (x ∷ xs), insert_merges t e xs s.1, sorted_not_after t x xs s.0, visits_apart t xs s.1, visits_apart t (x ∷ xs) s, before_not_after, prepend_merges, unpassed_all_readings)

-- Merging keeps visits in order and apart.
all_merge : (t : Terms) (P : Visit → Type 0) → ((a b : Visit) → near t a b ≡ true → P a → P b → P (merged a b)) → (u : Visit) (vs : List Visit) → P u → AllByRecursion P vs → AllByRecursion P (merge_in t u vs)
all_merge t P both u [] h a = (h, tt)
all_merge t P both u (v ∷ vs) h a =
    split (near t u v)
    (λ n. simp n (all_merge t P both (merged u v) vs (both u v n h a.0) a.1))
    (λ n. split (visit_before t v u)
    (λ b. simp (n, b) (a.0, all_merge t P both u vs h a.1))
    (λ b. simp (n, b) (h, a)))

follows_merged : (t : Terms) (v a b : Visit) → near t a b ≡ true → Follows t v a → Follows t v b → Follows t v (merged a b)
unfolding near
follows_merged t v a b n f g = (f.0, grind (arith, nat_tests))

passed_follows : (t : Terms) (u v : Visit) → v.from ≤ v.to → u.from ≤ u.to → near t u v ≡ false → visit_before t v u ≡ true → Follows t v u
unfolding near visit_before
passed_follows t u v h k n b = (grind (arith, nat_tests), grind (arith, nat_tests))

stopped_follows : (t : Terms) (u v : Visit) → v.from ≤ v.to → u.from ≤ u.to → near t u v ≡ false → visit_before t v u ≡ false → Follows t u v
unfolding near visit_before
stopped_follows t u v h k n b = (grind (arith, nat_tests), grind (arith, nat_tests))

pub merge_keeps_apart : (t : Terms) (u : Visit) (vs : List Visit) → u.from ≤ u.to → Apart t vs → Apart t (merge_in t u vs)
merge_keeps_apart t u [] h p = (h, tt, tt)
merge_keeps_apart t u (v ∷ vs) h p = grind (arith, nat_tests, merge_keeps_apart t (merged u v) vs (merged_order u v h) p.2, merged_order u v h, Follows t v, follows_merged t v, merge_keeps_apart t u vs h p.2, all_merge, passed_follows, stopped_follows, all_follow)

-- The visits that are taken in are those near to the first, at every stage.
near_same : (t : Terms) (u v : Visit) → u.from ≤ u.to → near t u v ≡ true → v.from ≤ v.to → (w : Visit) → Follows t v w × (w.from ≤ w.to) → near t (merged u v) w ≡ near t u w
unfolding near
near_same t u v h n k w f = grind (arith, nat_tests)

abbrev Unpassed : Terms → Visit → Visit → Type 0
Unpassed t u w = near t u w ≡ false → visit_before t w u ≡ false

follows_unpassed : (t : Terms) (u v : Visit) → v.from ≤ v.to → near t u v ≡ true → (w : Visit) → Follows t v w → Unpassed t (merged u v) w
unfolding near visit_before
follows_unpassed t u v h n w f q = grind (arith, nat_tests)

follows_not_near : (t : Terms) (u : Visit) → (w : Visit) → Follows t u w → near t u w ≡ false
unfolding near
follows_not_near t u w f = grind (arith, nat_tests)

near_ones_same : (t : Terms) (u v : Visit) (vs : List Visit) → u.from ≤ u.to → near t u v ≡ true → v.from ≤ v.to → AllByRecursion (Follows t v) vs → Apart t vs
    → near_ones t (merged u v) vs ≡ near_ones t u vs
near_ones_same t u v vs h n k a p =
    kept_agree (near t (merged u v)) (near t u) vs
    (All-weaker (λ w. Follows t v w × (w.from ≤ w.to)) (λ w. near t (merged u v) w ≡ near t u w) (near_same t u v h n k) vs (all_both (Follows t v) (λ w. w.from ≤ w.to) vs a (apart_order t vs p)))

-- Where none is passed: the near ones stand first, and become one.
abbrev Reached : Terms → Visit → List Visit → Type 0
Reached t u vs = (back : List Visit) × (vs ≡ near_ones t u vs ++ back) × (merge_in t u vs ≡ merged_with u (near_ones t u vs) ∷ back)

reached_near : (t : Terms) (u v : Visit) (vs : List Visit) → near t u v ≡ true → near_ones t (merged u v) vs ≡ near_ones t u vs → Reached t (merged u v) vs → Reached t u (v ∷ vs)
reached_near t u v vs n q r = grind (arith, nat_tests)

reached_none : (t : Terms) (u : Visit) (vs : List Visit) → u.from ≤ u.to → AllByRecursion (Follows t u) vs → Apart t vs → Reached t u vs
reached_none t u vs h a p =
    let q : near_ones t u vs ≡ [] = kept_none (near t u) vs (All-weaker (Follows t u) (λ w. near t u w ≡ false) (follows_not_near t u) vs a) in
    (vs, ap (λ (l : List Visit). l ++ vs) (sym q), merge_apart t u vs h a p ∙ ap (λ (l : List Visit). merged_with u l ∷ vs) (sym q))

reached : (t : Terms) (u : Visit) (vs : List Visit) → u.from ≤ u.to → Apart t vs → AllByRecursion (Unpassed t u) vs → Reached t u vs
reached t u [] h p a = ([], refl, refl)
reached t u (v ∷ vs) h p a =
    split (near t u v)
    (λ n. let next = All-weaker (Follows t v) (Unpassed t (merged u v)) (follows_unpassed t u v p.0 n) vs p.1 in
    reached_near t u v vs n (near_ones_same t u v vs h n p.0 p.1 p.2) (reached t (merged u v) vs (merged_order u v h) p.2 next))
    (λ n. let f = stopped_follows t u v p.0 h n (a.0 n) in
    reached_none t u (v ∷ vs) h (f, all_follow t u v vs f p.0 p.1) p)

-- The parts of visits into which one is merged: those in front and behind stay, the near ones between them become one.
pub record MergedAt (t : Terms) (u : Visit) (vs : List Visit) : Type 0 where
  pub front : List Visit
  pub back : List Visit
  pub parts : vs ≡ front ++ (near_ones t u vs ++ back)
  pub result : merge_in t u vs ≡ front ++ (merged_with u (near_ones t u vs) ∷ back)

from_here : (t : Terms) (u : Visit) (vs : List Visit) → Reached t u vs → MergedAt t u vs
from_here t u vs r = record { front = []; back = r.0; parts = r.1; result = r.2 }

passed_on : (t : Terms) (u v : Visit) (vs : List Visit) → near t u v ≡ false → visit_before t v u ≡ true → MergedAt t u vs → MergedAt t u (v ∷ vs)
passed_on t u v vs n b r =
    record {
      front = v ∷ r.front;
      back = r.back;
      parts = simp n (ap (λ (l : List Visit). v ∷ l) r.parts);
      result = simp (n, b) (ap (λ (l : List Visit). v ∷ l) r.result);
    }

unpassed_all : (t : Terms) (u v : Visit) → visit_before t v u ≡ false → v.from ≤ v.to → (w : Visit) → Follows t v w → Unpassed t u w
unfolding visit_before
unpassed_all t u v b h w f q = grind (arith, nat_tests)

near_unpassed : (t : Terms) (u v : Visit) → u.from ≤ u.to → near t u v ≡ true → v.from ≤ v.to → (w : Visit) → Follows t v w → Unpassed t u w
unfolding near visit_before
near_unpassed t u v k n h w f q = grind (arith, nat_tests)

pub merge_shape : (t : Terms) (u : Visit) (vs : List Visit) → u.from ≤ u.to → Apart t vs → MergedAt t u vs
merge_shape t u [] h p = grind (arith, nat_tests)
merge_shape t u (v ∷ vs) h p =
    let rest = λ (each : (w : Visit) → Follows t v w → Unpassed t u w). All-weaker (Follows t v) (Unpassed t u) each vs p.1 in
    split (near t u v)
    (λ n. from_here t u (v ∷ vs) (reached t u (v ∷ vs) h p ((λ q. cc), rest (near_unpassed t u v h n p.0))))
    (λ n. split (visit_before t v u)
    (λ b. passed_on t u v vs n b (merge_shape t u vs h p.2))
    (λ b. from_here t u (v ∷ vs) (reached t u (v ∷ vs) h p ((λ _. b), rest (unpassed_all t u v b p.0)))))

-- A reading's own visit is near to two others at most, if these are apart.
third_far : (t : Terms) (e : Reading) (v w : Visit) → near t (single e) v ≡ true → Follows t v w → w.from ≤ w.to → (x : Visit) → Follows t w x → near t (single e) x ≡ false
unfolding near
third_far t e v w n f h x g = grind (arith, nat_tests)

near_one : (t : Terms) (e : Reading) (v : Visit) (vs : List Visit) → near t (single e) v ≡ true → AllByRecursion (Follows t v) vs → Apart t vs → length (near_ones t (single e) vs) ≤ 1
near_one t e v [] n a p = omega arith
near_one t e v (w ∷ ws) n a p = grind (arith, nat_tests, All-weaker (Follows t w) (λ x. near t (single e) x ≡ false) (third_far t e v w n a.0 p.0) ws p.1, Follows t w, third_far t e v w n a.0 p.0, near_one t e v ws n a.1 p.2, kept_none)

pub near_two : (t : Terms) (e : Reading) (vs : List Visit) → Apart t vs → length (near_ones t (single e) vs) ≤ 2
near_two t e [] p = omega arith
near_two t e (v ∷ vs) p = grind (arith, nat_tests, near_two t e vs p.2, near_one)

-- The visits of two lists of readings, none of the first with any of the second in one visit, are those of each.
abbrev pub Clear : Terms → List Reading → List Reading → Type 0
Clear t xs ys = AllByRecursion (λ x. AllByRecursion (λ y. joins t x (single y) ≡ false) ys) xs

unjoined_grown : (t : Terms) (x y : Reading) (v : Visit) → joins t x (single y) ≡ false → joins t y v ≡ true → joins t x (grown y v) ≡ false
unfolding joins
unjoined_grown t x y v o j = grind (arith, nat_tests)

prepend_unjoined : (t : Terms) (x y : Reading) (vs : List Visit) → joins t x (single y) ≡ false → AllByRecursion (λ v. joins t x v ≡ false) vs → AllByRecursion (λ v. joins t x v ≡ false) (prepend t y vs)
prepend_unjoined t x y [] o a = (o, tt)
prepend_unjoined t x y (v ∷ vs) o a = grind (arith, nat_tests, unjoined_grown)

visits_unjoined : (t : Terms) (x : Reading) (ys : List Reading) → AllByRecursion (λ y. joins t x (single y) ≡ false) ys → AllByRecursion (λ v. joins t x v ≡ false) (visits t ys)
visits_unjoined t x [] a = tt
visits_unjoined t x (y ∷ ys) a = prepend_unjoined t x y (visits t ys) a.0 (visits_unjoined t x ys a.1)

prepend_append : (t : Terms) (x : Reading) (vs ws : List Visit) → AllByRecursion (λ v. joins t x v ≡ false) ws → prepend t x (vs ++ ws) ≡ prepend t x vs ++ ws
prepend_append t x [] [] a = refl
prepend_append t x [] (w ∷ ws) a = simp a.0
prepend_append t x (v ∷ vs) ws a = grind (arith, nat_tests)

pub visits_append : (t : Terms) (xs ys : List Reading) → Clear t xs ys → visits t (xs ++ ys) ≡ visits t xs ++ visits t ys
visits_append t [] ys a = refl
visits_append t (x ∷ xs) ys a = ap (prepend t x) (visits_append t xs ys a.1) ∙ prepend_append t x (visits t xs) (visits t ys) (visits_unjoined t x ys a.0)
