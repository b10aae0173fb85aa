-- What a command changes among the closed visits.
use Rattle.std.proofs.Common.{◌≡◌, ℕ, ◌<◌, ◌≤◌, true, false, not, List, [], ◌∷◌, ◌++◌, sym, refl, ◌∙◌, subst, arith}
use Rattle.std.specs.List.{AllByRecursion}
use Rattle.std.proofs.lemmas.List.Elements.{filter-append}
use Rattle.std.proofs.ByRecursion.{all_kept_by, All-weaker, kept_by_passes}
use Rattle.std.proofs.lemmas.List.{append-nil}
use Rattle.std.proofs.lemmas.Bool.{or_from, or_left, or_parts, or_right}
use Rattle.std.proofs.lemmas.Bool.Decides.{nat_tests}
use Rattle.visit.specs.declared.Reading.{Reading}
use Rattle.visit.specs.declared.Terms.{Terms}
use Rattle.visit.specs.declared.Visit.{Visit}
use Rattle.visit.specs.Visits.{closed, merged, near, same_visit, single}
use Rattle.command.specs.Outcomes.{changed}
use Rattle.model.specs.Few.{FewChanges, OnTime, OnlyWhatIsMet, WatermarkAdds, merged_with, near_ones}
use Rattle.model.specs.Reference.{Reference, closed_of}
use Rattle.model.specs.Sessions.{changes, closed_visits, difference, some, visits}
use Rattle.model.specs.Store.{merge_in}
use Rattle.model.proofs.Common.{Absent, In, absent_kept, all_both, all_in, fewer_differs, kept_none, kept_shorter, same_itself, some_append}
use Rattle.model.proofs.Merge.{insert_merges, merge_keeps_apart, merge_shape, near_two}
use Rattle.model.proofs.Order.{Apart, Follows, absent_behind, follows_differs, reference_sorted, visits_apart}

-- A visit is in lists that are put together, or absent from them, as it is of the parts.
in_left : (t : Terms) (xs ys : List Visit) (v : Visit) → In t xs v → In t (xs ++ ys) v
in_left t xs ys v h = some_append (same_visit t v) xs ys ∙ or_left (some (same_visit t v) xs) (some (same_visit t v) ys) h

in_right : (t : Terms) (xs ys : List Visit) (v : Visit) → In t ys v → In t (xs ++ ys) v
in_right t xs ys v h = some_append (same_visit t v) xs ys ∙ or_right (some (same_visit t v) xs) (some (same_visit t v) ys) h

absent_append : (t : Terms) (xs ys : List Visit) (v : Visit) → Absent t xs v → Absent t ys v → Absent t (xs ++ ys) v
absent_append t xs ys v h k = some_append (same_visit t v) xs ys ∙ or_from (some (same_visit t v) xs) (some (same_visit t v) ys) h k

absent_parts : (t : Terms) (xs ys : List Visit) (v : Visit) → Absent t (xs ++ ys) v → Absent t xs v × Absent t ys v
absent_parts t xs ys v h = or_parts (some (same_visit t v) xs) (some (same_visit t v) ys) (sym (some_append (same_visit t v) xs ys) ∙ h)

-- The difference of lists of which one part is in the other, or absent from it.
pub difference_none : (t : Terms) (vs ws : List Visit) → AllByRecursion (In t ws) vs → difference t vs ws ≡ []
difference_none t [] ws a = refl
difference_none t (v ∷ vs) ws a = simp (a.0, difference_none t vs ws a.1)

pub difference_all : (t : Terms) (vs ws : List Visit) → AllByRecursion (Absent t ws) vs → difference t vs ws ≡ vs
difference_all t [] ws a = refl
difference_all t (v ∷ vs) ws a = simp (a.0, difference_all t vs ws a.1)

difference_append : (t : Terms) (us vs ws : List Visit) → difference t (us ++ vs) ws ≡ difference t us ws ++ difference t vs ws
difference_append t us vs ws = filter-append (λ v. not (some (same_visit t v) ws)) us vs

difference_middle : (t : Terms) (ps ms zs ss : List Visit) → AllByRecursion (Absent t (ps ++ (zs ++ ss))) ms → difference t (ps ++ (ms ++ ss)) (ps ++ (zs ++ ss)) ≡ ms
difference_middle t ps ms zs ss a = grind (arith, nat_tests, in_left t ps (zs ++ ss), all_in t ps, all_in t ss, append-nil ms, difference_none, All-weaker, in_right, difference_all, difference_append)

-- In visits that are apart none stands twice.
all_here : {X : Type 0} (P : X → Type 0) (xs ys : List X) (y : X) → AllByRecursion P (xs ++ (y ∷ ys)) → P y
all_here P [] ys y a = a.0
all_here P (x ∷ xs) ys y a = all_here P xs ys y a.1

all_without : {X : Type 0} (P : X → Type 0) (xs ys : List X) (y : X) → AllByRecursion P (xs ++ (y ∷ ys)) → AllByRecursion P (xs ++ ys)
all_without P [] ys y a = a.1
all_without P (x ∷ xs) ys y a = (a.0, all_without P xs ys y a.1)

apart_without : (t : Terms) (ps ss : List Visit) (v : Visit) → Apart t (ps ++ (v ∷ ss)) → Apart t (ps ++ ss)
apart_without t [] ss v p = p.2
apart_without t (x ∷ ps) ss v p = (p.0, all_without (Follows t x) ps ss v p.1, apart_without t ps ss v p.2)

absent_around : (t : Terms) (ps ss : List Visit) (v : Visit) → Apart t (ps ++ (v ∷ ss)) → Absent t ps v × Absent t ss v
absent_around t [] ss v p = (refl, absent_behind t v ss p.0 p.1)
absent_around t (x ∷ ps) ss v p =
    let r = absent_around t ps ss v p.2 in
    (simp (follows_differs t x v p.0 (all_here (Follows t x) ps ss v p.1)).1 r.0, r.1)

absent_others : (t : Terms) (ps ms ss : List Visit) → Apart t (ps ++ (ms ++ ss)) → AllByRecursion (λ v. Absent t ps v × Absent t ss v) ms
absent_others t ps [] ss p = tt
absent_others t ps (v ∷ ms) ss p =
    let r = absent_around t ps (ms ++ ss) v p in
    ((r.0, (absent_parts t ms ss v r.1).1), absent_others t ps ms ss (apart_without t ps (ms ++ ss) v p))

closed_parts : (t : Terms) (m : ℕ) (ps ms ss : List Visit) → closed_visits t m (ps ++ (ms ++ ss)) ≡ closed_visits t m ps ++ (closed_visits t m ms ++ closed_visits t m ss)
closed_parts t m ps ms ss = grind (arith, filter-append (closed t m) ps (ms ++ ss), filter-append (closed t m) ms ss)

closed_absent : (t : Terms) (m : ℕ) (ps zs ss : List Visit) (v : Visit) → Absent t ps v → Absent t zs v → Absent t ss v
    → Absent t (closed_visits t m ps ++ (closed_visits t m zs ++ closed_visits t m ss)) v
closed_absent t m ps zs ss v p z s = grind (arith, absent_kept t (closed t m) v, absent_append)

-- Visits replaced in the middle: of the closed ones, just those of the middle are missed.
replaced : (t : Terms) (m : ℕ) (ps ms zs ss : List Visit) → Apart t (ps ++ (ms ++ ss)) → AllByRecursion (Absent t zs) ms
    → difference t (closed_visits t m (ps ++ (ms ++ ss))) (closed_visits t m (ps ++ (zs ++ ss))) ≡ closed_visits t m ms
replaced t m ps ms zs ss p a = grind (arith, nat_tests, all_both (λ v. Absent t ps v × Absent t ss v) (Absent t zs) ms (absent_others t ps ms ss p) a, closed_parts t m ps ms ss, closed_parts t m ps zs ss, All-weaker, closed_absent, difference_middle, all_kept_by)

changes_replaced : (t : Terms) (m : ℕ) (vs ws ps ms zs ss : List Visit) → vs ≡ ps ++ (ms ++ ss) → ws ≡ ps ++ (zs ++ ss) → Apart t vs → Apart t ws
    → AllByRecursion (Absent t zs) ms → AllByRecursion (Absent t ms) zs → changes t (closed_visits t m vs) (closed_visits t m ws) ≡ changed (closed_visits t m ms) (closed_visits t m zs)
changes_replaced t m vs ws ps ms zs ss p q h k a b = grind (arith, replaced t m ps ms zs ss (subst (Apart t) p h) a, replaced t m ps zs ms ss (subst (Apart t) q k) b)

-- A visit made of others has more readings than each, and ends no earlier than the first.
with_count : (u : Visit) (ms : List Visit) → u.count ≤ (merged_with u ms).count
with_count u [] = omega arith
with_count u (v ∷ ms) = omega (arith, with_count (merged u v) ms)

with_counts : (u : Visit) (ms : List Visit) → 1 ≤ u.count → AllByRecursion (λ v. v.count < (merged_with u ms).count) ms
with_counts u [] h = tt
with_counts u (v ∷ ms) h = (omega (arith, with_count (merged u v) ms), with_counts (merged u v) ms (omega arith))

with_to : (u : Visit) (ms : List Visit) → u.to ≤ (merged_with u ms).to
with_to u [] = omega arith
with_to u (v ∷ ms) = omega (arith, with_to (merged u v) ms)

fewer_absent : (t : Terms) (z v : Visit) → v.count < z.count → Absent t (z ∷ []) v
fewer_absent t z v h = simp (fewer_differs t z v h).0

absent_fewer : (t : Terms) (z : Visit) (ms : List Visit) → AllByRecursion (λ v. v.count < z.count) ms → Absent t ms z
absent_fewer t z [] a = refl
absent_fewer t z (v ∷ ms) a = simp (fewer_differs t z v a.0).1 (absent_fewer t z ms a.1)

-- The changes of merging a reading's visit: the near ones that were closed, and what they become, if it is closed.
pub merging_changes : (t : Terms) (m : ℕ) (e : Reading) (vs : List Visit) → Apart t vs
    → changes t (closed_visits t m vs) (closed_visits t m (merge_in t (single e) vs))
    ≡ changed (closed_visits t m (near_ones t (single e) vs)) (closed_visits t m (merged_with (single e) (near_ones t (single e) vs) ∷ []))
merging_changes t m e vs p =
    let r = merge_shape t (single e) vs (omega arith) p in
    let ms : List Visit = near_ones t (single e) vs in
    let z : Visit = merged_with (single e) ms in
    let n : AllByRecursion (λ v. v.count < z.count) ms = with_counts (single e) ms (omega arith) in
    changes_replaced t m vs (merge_in t (single e) vs) r.front ms (z ∷ []) r.back r.parts r.result p (merge_keeps_apart t (single e) vs (omega arith) p)
    (All-weaker (λ v. v.count < z.count) (Absent t (z ∷ [])) (fewer_absent t z) ms n) (absent_fewer t z ms n, tt)

pub only_what_is_met : OnlyWhatIsMet
only_what_is_met t cs e gone new h = grind (arith, reference_sorted t cs, insert_merges, merging_changes, visits_apart)

-- So it changes few visits, and none if it is on time.
pub few_changes : FewChanges
few_changes t cs e gone new h = grind (arith, only_what_is_met t cs e gone new h, reference_sorted t cs, kept_shorter, near_two, visits_apart)

near_open : (t : Terms) (m : ℕ) (e : Reading) → m ≤ e.time → (v : Visit) → near t (single e) v ≡ true → closed t m v ≡ false
unfolding near closed
near_open t m e h v n = grind arith

later_open : (t : Terms) (m : ℕ) (v : Visit) → m ≤ v.to → closed t m v ≡ false
unfolding closed
later_open t m v h = grind arith

all_open : (t : Terms) (m : ℕ) (e : Reading) (vs : List Visit) → m ≤ e.time → closed_visits t m (near_ones t (single e) vs) ≡ []
all_open t m e vs h = grind (arith, near_open t m e h, kept_by_passes (near t (single e)) vs, kept_none, All-weaker)

became_open : (t : Terms) (m : ℕ) (e : Reading) (ms : List Visit) → m ≤ e.time → closed_visits t m (merged_with (single e) ms ∷ []) ≡ []
became_open t m e ms h = grind (arith, with_to (single e) ms, later_open)

pub on_time : OnTime
on_time t cs e gone new h o = grind (arith, only_what_is_met t cs e gone new o, all_open, became_open)

-- What is closed stays closed as the watermark rises.
open_before : (t : Terms) (m n : ℕ) (v : Visit) → m ≤ n → closed t n v ≡ false → closed t m v ≡ false
unfolding closed
open_before t m n v h o = grind arith

closed_in : (t : Terms) (m n : ℕ) (vs : List Visit) → m ≤ n → AllByRecursion (In t (closed_visits t n vs)) (closed_visits t m vs)
closed_in t m n [] h = tt
closed_in t m n (v ∷ vs) h = grind (arith, closed_in t m n vs h, same_itself t v, All-weaker, open_before)

risen : (t : Terms) (k : Reference) (m : ℕ) (gone new : List Visit) → k.watermark ≤ m → changes t (closed_of t k) (closed_visits t m (visits t k.readings)) ≡ changed gone new → gone ≡ []
risen t k m gone new h r =
    let vs : List Visit = visits t k.readings in
    let n : difference t (closed_of t k) (closed_visits t m vs) ≡ [] = difference_none t (closed_of t k) (closed_visits t m vs) (closed_in t k.watermark m vs h) in
    cc (r, n)

pub watermark_adds : WatermarkAdds
watermark_adds t k m gone new h = grind (arith, risen)
