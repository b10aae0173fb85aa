-- Expired visits and readings that are too late change nothing that a command does.
use Rattle.std.proofs.Common.{◌≡◌, ℕ, ◌<◌, ◌≤◌, Bool, true, false, not, ◌&&◌, List, [], ◌∷◌, filter, sym, refl, ap, ◌∙◌, arith}
use mathlib.Core.Bool.{and_assoc}
use Rattle.std.specs.List.{AllByRecursion}
use Rattle.std.proofs.ByRecursion.{All-weaker}
use Rattle.std.proofs.lemmas.Bool.Decides.{nat_tests}
use Rattle.visit.specs.declared.Reading.{Reading}
use Rattle.visit.specs.declared.Terms.{Terms}
use Rattle.visit.specs.declared.Visit.{Visit}
use Rattle.visit.specs.Readings.{gap_of, kept, reading_before, same_reading, too_late}
use Rattle.visit.specs.Visits.{closed, expired, live, merged, near, same_visit, single, visit_before}
use Rattle.model.specs.Sessions.{closed_visits, contains, difference, insert_reading, some}
use Rattle.model.specs.Store.{kept_only, live_only, merge_in}
use Rattle.model.proofs.Common.{all_both, all_in, kept_agree, kept_alike, kept_twice, same_visits, some_kept, split}
use Rattle.model.proofs.Order.{Apart, Follows, SortedReadings, apart_order, merged_order}

-- What the tests tell of each other. Of `kept` no more is used than this: a reading that is not too late is kept, and what is kept was kept before.
pub timely_kept : (t : Terms) (m : ℕ) (e : Reading) → too_late t m e ≡ false → kept t m e ≡ true
unfolding kept
timely_kept t m e h = simp h

pub kept_rising : (t : Terms) (m n : ℕ) → m ≤ n → (e : Reading) → (kept t m e && kept t n e) ≡ kept t n e
unfolding kept too_late
kept_rising t m n h e = grind (arith, nat_tests)

unkept_late : (t : Terms) (m : ℕ) (e : Reading) → kept t m e ≡ false → too_late t m e ≡ true
unkept_late t m e h = grind (arith, nat_tests, timely_kept)

pub live_rising : (t : Terms) (m n : ℕ) → m ≤ n → (v : Visit) → (live t m v && live t n v) ≡ live t n v
unfolding live expired
live_rising t m n h v = grind (arith, nat_tests)

pub dead_closed : (t : Terms) (m n : ℕ) → m ≤ n → (v : Visit) → live t m v ≡ false → (closed t m v ≡ true) × (closed t n v ≡ true)
unfolding live expired closed
dead_closed t m n h v o = (grind (arith, nat_tests), grind (arith, nat_tests))

-- A reading that is not too late is a live visit, and near only to live ones.
pub timely_live : (t : Terms) (m : ℕ) (e : Reading) → too_late t m e ≡ false → live t m (single e) ≡ true
unfolding live expired too_late
timely_live t m e h = grind (arith, nat_tests)

pub timely_near : (t : Terms) (m : ℕ) (e : Reading) → too_late t m e ≡ false → (v : Visit) → near t (single e) v ≡ true → live t m v ≡ true
unfolding live expired too_late near gap_of
timely_near t m e h v n = grind (arith, nat_tests)

-- A visit reaches only live ones of a list: all that are near to it are live.
abbrev pub ReachesLive : Terms → ℕ → Visit → List Visit → Type 0
ReachesLive t m u vs = AllByRecursion (λ v. near t u v ≡ true → live t m v ≡ true) vs

pub timely_reaches : (t : Terms) (m : ℕ) (e : Reading) → too_late t m e ≡ false → (vs : List Visit) → ReachesLive t m (single e) vs
timely_reaches t m e h [] = tt
timely_reaches t m e h (v ∷ vs) = (timely_near t m e h v, timely_reaches t m e h vs)

-- What a live visit and a live one near to it make is live, and so is all of its card that follows.
merged_live : (t : Terms) (m : ℕ) (u w : Visit) → near t u w ≡ true → live t m u ≡ true → live t m (merged u w) ≡ true
unfolding live expired near gap_of
merged_live t m u w n l = grind (arith, nat_tests)

merged_near : (t : Terms) (m : ℕ) (u w : Visit) → near t u w ≡ true → live t m w ≡ true → (x : Visit) → (x.from ≤ x.to) × Follows t w x
    → near t (merged u w) x ≡ true → live t m x ≡ true
unfolding live expired near gap_of
merged_near t m u w n l x f q = grind (arith, nat_tests)

pub merged_reaches : (t : Terms) (m : ℕ) (u w : Visit) (ws : List Visit) → near t u w ≡ true → live t m w ≡ true → AllByRecursion (Follows t w) ws → Apart t ws
    → ReachesLive t m (merged u w) ws
merged_reaches t m u w ws n l a p =
    All-weaker (λ x. (x.from ≤ x.to) × Follows t w x) (λ x. near t (merged u w) x ≡ true → live t m x ≡ true) (merged_near t m u w n l) ws (all_both (λ x. x.from ≤ x.to) (Follows t w) ws (apart_order t ws p) a)

-- Past an expired visit that a live one neither reaches nor passes, there is nothing that it reaches or passes.
dead_stop : (t : Terms) (m : ℕ) (u w : Visit) → u.from ≤ u.to → w.from ≤ w.to → live t m u ≡ true → live t m w ≡ false → near t u w ≡ false → visit_before t w u ≡ false
    → u.card < w.card
unfolding live expired near visit_before gap_of
dead_stop t m u w a b l d n o = grind (arith, nat_tests)

card_far : (t : Terms) (u w x : Visit) → u.card < w.card → Follows t w x → (near t u x ≡ false) × (visit_before t x u ≡ false)
unfolding near visit_before
card_far t u w x h f = (grind (arith, nat_tests), grind (arith, nat_tests))

stays_first : (t : Terms) (m : ℕ) (u w : Visit) (xs : List Visit) → u.card < w.card → AllByRecursion (Follows t w) xs → merge_in t u (live_only t m xs) ≡ u ∷ live_only t m xs
stays_first t m u w [] h a = refl
stays_first t m u w (x ∷ xs) h a = grind (arith, nat_tests, card_far t u w x h a.0, stays_first t m u w xs h a.1)

-- Merging a live visit that reaches only live ones, and forgetting expired ones, go in either order.
pub live_merge : (t : Terms) (m : ℕ) (u : Visit) (vs : List Visit) → u.from ≤ u.to → live t m u ≡ true → ReachesLive t m u vs → Apart t vs
    → live_only t m (merge_in t u vs) ≡ merge_in t u (live_only t m vs)
live_merge t m u [] h l r p = simp l
live_merge t m u (w ∷ ws) h l r p =
    split (near t u w)
    (λ n.
    let k : live t m w ≡ true = r.0 n in
    let ih = live_merge t m (merged u w) ws (merged_order u w h) (merged_live t m u w n l) (merged_reaches t m u w ws n k p.1 p.2) p.2 in
    simp (k, n, ih))
    (λ n. split (visit_before t w u)
    (λ b. let ih = live_merge t m u ws h l r.1 p.2 in split (live t m w) (λ k. simp (n, b, k, ih)) (λ k. simp (n, b, k, ih)))
    (λ b. split (live t m w)
    (λ k. simp (n, b, k, l))
    (λ k. let q = stays_first t m u w ws (dead_stop t m u w h p.0 l k n b) p.1 in simp (n, b, k, l, q))))

-- The same visit passes the same tests.
pub differ : (t : Terms) (p : Visit → Bool) (v w : Visit) → p v ≡ false → p w ≡ true → same_visit t v w ≡ false
differ t p v w a b = grind (arith, nat_tests, same_visits)

-- An expired visit is among the merged ones if it was there before.
pub dead_merge : (t : Terms) (m : ℕ) (v : Visit) → live t m v ≡ false → (u : Visit) (vs : List Visit) → live t m u ≡ true → ReachesLive t m u vs → Apart t vs
    → some (same_visit t v) (merge_in t u vs) ≡ some (same_visit t v) vs
dead_merge t m v d u [] l r p = simp (differ t (live t m) v u d l)
dead_merge t m v d u (w ∷ ws) l r p =
    split (near t u w)
    (λ n.
    let k : live t m w ≡ true = r.0 n in
    let q = differ t (live t m) v w d k in
    let ih = dead_merge t m v d (merged u w) ws (merged_live t m u w n l) (merged_reaches t m u w ws n k p.1 p.2) p.2 in
    simp (n, q, ih))
    (λ n. split (visit_before t w u)
    (λ b. let ih = dead_merge t m v d u ws l r.1 p.2 in simp (n, b, ih))
    (λ b. let q = differ t (live t m) v u d l in simp (n, b, q)))

-- Expired visits that are in both lists, and closed in both, are in no difference of the closed ones.
-- p closed before, q closed now, l live
difference_kept : (p q l i : Bool) → (l ≡ false → (p ≡ true) × (q ≡ true)) → (l ≡ false → i ≡ true) → (p && not (q && i)) ≡ ((l && p) && not (l && (q && i)))
difference_kept true true true i h k = refl
difference_kept true false true i h k = refl
difference_kept false q true i h k = refl
difference_kept true true false i h k = simp (k refl)
difference_kept true false false i h k = sym (h refl).1
difference_kept false true false i h k = refl
difference_kept false false false i h k = refl

difference_is : (t : Terms) (p q : Visit → Bool) (vs ws : List Visit)
    → difference t (filter p vs) (filter q ws) ≡ filter (λ v. p v && not (q v && some (same_visit t v) ws)) vs
difference_is t p q vs ws =
    kept_twice (λ v. not (some (same_visit t v) (filter q ws))) p vs
    ∙ kept_alike (λ v. p v && not (some (same_visit t v) (filter q ws))) (λ v. p v && not (q v && some (same_visit t v) ws))
    (λ v. ap (λ (b : Bool). p v && not b) (some_kept t q v ws)) vs

pub difference_live : (t : Terms) (m n k : ℕ) (vs ws : List Visit)
    → ((v : Visit) → live t m v ≡ false → (closed t n v ≡ true) × (closed t k v ≡ true))
    → ((v : Visit) → live t m v ≡ false → some (same_visit t v) vs ≡ some (same_visit t v) ws)
    → difference t (closed_visits t n vs) (closed_visits t k ws) ≡ difference t (closed_visits t n (live_only t m vs)) (closed_visits t k (live_only t m ws))
difference_live t m n k vs ws c d =
    difference_is t (closed t n) (closed t k) vs ws
    ∙ kept_agree (λ v. closed t n v && not (closed t k v && some (same_visit t v) ws)) (λ v. (live t m v && closed t n v) && not (live t m v && (closed t k v && some (same_visit t v) ws))) vs
    (All-weaker (λ v. some (same_visit t v) vs ≡ true)
    (λ v. (closed t n v && not (closed t k v && some (same_visit t v) ws)) ≡ ((live t m v && closed t n v) && not (live t m v && (closed t k v && some (same_visit t v) ws))))
    (λ v h. difference_kept (closed t n v) (closed t k v) (live t m v) (some (same_visit t v) ws) (c v) (λ o. sym (d v o) ∙ h)) vs (all_in t vs))
    ∙ sym (rw (kept_twice (closed t n) (live t m) vs, kept_twice (closed t k) (live t m) ws) (difference_is t (λ v. live t m v && closed t n v) (λ v. live t m v && closed t k v) vs ws
    ∙ kept_alike (λ v. (live t m v && closed t n v) && not ((live t m v && closed t k v) && some (same_visit t v) ws)) (λ v. (live t m v && closed t n v) && not (live t m v && (closed t k v && some (same_visit t v) ws)))
    (λ v. ap (λ (b : Bool). (live t m v && closed t n v) && not b) (and_assoc (live t m v) (closed t k v) (some (same_visit t v) ws))) vs))

-- A reading that is not too late is found among the kept ones if it is among all.
late_differs : (t : Terms) (m : ℕ) (e x : Reading) → too_late t m e ≡ false → too_late t m x ≡ true → same_reading t e x ≡ false
unfolding too_late same_reading
late_differs t m e x h k = grind (arith, nat_tests)

pub contains_kept : (t : Terms) (m : ℕ) (e : Reading) (xs : List Reading) → too_late t m e ≡ false → contains t e (kept_only t m xs) ≡ contains t e xs
contains_kept t m e [] h = refl
contains_kept t m e (x ∷ xs) h = grind (arith, nat_tests, contains_kept t m e xs h, late_differs, unkept_late)

-- Putting it in its place and forgetting those that are too late go in either order.
late_stop : (t : Terms) (m : ℕ) (e x y : Reading) → too_late t m e ≡ false → too_late t m x ≡ true → reading_before t x e ≡ false → reading_before t x y ≡ true
    → reading_before t y e ≡ false
unfolding too_late reading_before
late_stop t m e x y h k o b = grind (arith, nat_tests)

insert_first : (t : Terms) (m : ℕ) (e x : Reading) (ys : List Reading) → too_late t m e ≡ false → too_late t m x ≡ true → reading_before t x e ≡ false
    → AllByRecursion (λ y. reading_before t x y ≡ true) ys → insert_reading t e (kept_only t m ys) ≡ e ∷ kept_only t m ys
insert_first t m e x [] h k o a = refl
insert_first t m e x (y ∷ ys) h k o a = grind (arith, nat_tests, late_stop t m e x y h k o a.0, insert_first t m e x ys h k o a.1)

pub insert_kept : (t : Terms) (m : ℕ) (e : Reading) (xs : List Reading) → too_late t m e ≡ false → SortedReadings t xs
    → insert_reading t e (kept_only t m xs) ≡ kept_only t m (insert_reading t e xs)
insert_kept t m e [] h s = simp (timely_kept t m e h)
insert_kept t m e (x ∷ xs) h s =
    let j = timely_kept t m e h in
    let ih = insert_kept t m e xs h s.1 in
    split (reading_before t x e)
    (λ o. split (kept t m x) (λ k. simp (o, k, ih)) (λ k. simp (o, k, ih)))
    (λ o. split (kept t m x) (λ k. simp (o, k, j)) (λ k. let q = insert_first t m e x xs h (unkept_late t m x k) o s.0 in simp (o, k, j, q)))

-- Forgetting at a watermark and then at a later one is forgetting at the later one.
pub live_twice : (t : Terms) (m n : ℕ) → m ≤ n → (vs : List Visit) → live_only t n (live_only t m vs) ≡ live_only t n vs
live_twice t m n h vs = kept_twice (live t n) (live t m) vs ∙ kept_alike (λ v. live t m v && live t n v) (live t n) (live_rising t m n h) vs

pub kept_only_twice : (t : Terms) (m n : ℕ) → m ≤ n → (xs : List Reading) → kept_only t n (kept_only t m xs) ≡ kept_only t n xs
kept_only_twice t m n h xs = kept_twice (kept t n) (kept t m) xs ∙ kept_alike (λ e. kept t m e && kept t n e) (kept t n) (kept_rising t m n h) xs
