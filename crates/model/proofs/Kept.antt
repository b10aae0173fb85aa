-- What the store keeps: how much, and for what.
use Rattle.std.proofs.Common.{◌≡◌, ℕ, zero, suc, ◌+◌, ◌-◌, ◌<◌, ◌≤◌, max, Bool, true, false, not, ◌||◌, eqb, leb, List, [], ◌∷◌, length, filter, sym, refl, ap, ◌∙◌, subst, arith}
use Rattle.std.specs.List.{AllByRecursion}
use Rattle.std.proofs.ByRecursion.{All-weaker, kept_by_passes}
use Rattle.std.proofs.lemmas.List.{nil_from_length}
use Rattle.std.proofs.lemmas.Bool.{both_ways, or_parts, or_right}
use Rattle.std.proofs.lemmas.Bool.Decides.{nat_tests}
use Rattle.visit.specs.declared.Reading.{Reading}
use Rattle.visit.specs.declared.Terms.{Terms}
use Rattle.visit.specs.declared.Visit.{Visit}
use Rattle.visit.specs.Readings.{gap_of, kept, same_reading, too_late}
use Rattle.visit.specs.Visits.{expired, grown, live, merged, near, same_visit, single, visit_before}
use Rattle.command.specs.declared.Command.TheVariants.{Reading as AReading}
use Rattle.command.specs.declared.Refusal.TheVariants.{Duplicate}
use Rattle.command.specs.Outcomes.{refused}
use Rattle.model.specs.Kept.{Holds, LittleKept, MayChange, NeedsAll, NothingInVain, recent}
use Rattle.model.specs.Reference.{Reference, after, empty}
use Rattle.model.specs.Sessions.{contains, prepend, some, visits}
use Rattle.model.specs.Store.{Store, kept_only, live_only, merge_in, store_outcome, store_step}
use Rattle.model.proofs.Common.{absent_kept, all_both, all_in, all_some, fewer_differs, kept_alike, kept_shorter, same_visits, split}
use Rattle.model.proofs.Order.{Apart, Follows, SortedReadings, absent_behind, apart_kept, apart_order, reference_sorted, visits_apart}
use Rattle.model.proofs.Mirror.{all_kept, image}

-- What is live and what is kept, by their times.
live_is : (t : Terms) (m : ℕ) (v : Visit) → live t m v ≡ leb m (v.to + gap_of t v.card + t.lateness)
unfolding live expired
live_is t m v = grind (arith, nat_tests)

kept_is : (t : Terms) (m : ℕ) (e : Reading) → kept t m e ≡ leb m (e.time + t.lateness)
unfolding kept too_late
kept_is t m e = grind (arith, nat_tests)

-- A live visit for each recent reading at most: a visit is as live as its last reading is recent.
single_recent : (t : Terms) (m : ℕ) (e : Reading) → live t m (single e) ≡ recent t m e
single_recent t m e = live_is t m (single e)

grown_live : (t : Terms) (m : ℕ) (e : Reading) (v : Visit) → live t m (grown e v) ≡ live t m v
unfolding live expired
grown_live t m e v = refl

more_kept : {X : Type 0} (p : X → Bool) (x : X) (xs : List X) → length (filter p xs) ≤ length (filter p (x ∷ xs))
more_kept p x xs = grind (arith, nat_tests)

both_kept : {X Y : Type 0} (p : X → Bool) (q : Y → Bool) (x : X) (xs : List X) (y : Y) (ys : List Y) → p x ≡ q y → length (filter p xs) ≤ length (filter q ys)
    → length (filter p (x ∷ xs)) ≤ length (filter q (y ∷ ys))
both_kept p q x xs y ys e h = grind (arith, nat_tests)

live_prepend : (t : Terms) (m : ℕ) (e : Reading) (vs : List Visit) (es : List Reading) → length (live_only t m vs) ≤ length (filter (recent t m) es)
    → length (live_only t m (prepend t e vs)) ≤ length (filter (recent t m) (e ∷ es))
live_prepend t m e [] es h = both_kept (live t m) (recent t m) (single e) [] e es (single_recent t m e) h
live_prepend t m e (v ∷ vs) es h = grind (arith, nat_tests, grown_live t m e v, more_kept (recent t m) e es, both_kept (live t m) (recent t m) (single e) (v ∷ vs) e es (single_recent t m e) h, single_recent t m e)

pub few_live : (t : Terms) (m : ℕ) (es : List Reading) → length (live_only t m (visits t es)) ≤ length (filter (recent t m) es)
few_live t m [] = omega arith
few_live t m (e ∷ es) = live_prepend t m e (visits t es) es (few_live t m es)

pub image_holds : (t : Terms) (k : Reference) → Holds t (image t k) k
image_holds t k = grind (arith, nat_tests, kept_alike, live_is, kept_is, few_live)

pub little_kept : LittleKept
little_kept t cs = grind (arith, nat_tests, all_kept t cs, image_holds t (after t empty cs))

-- A kept reading that comes again is refused.
same_reading_itself : (t : Terms) (e : Reading) → same_reading t e e ≡ true
unfolding same_reading
same_reading_itself t e = grind (arith, nat_tests)

kept_timely : (t : Terms) (m : ℕ) (e : Reading) → kept t m e ≡ true → too_late t m e ≡ false
unfolding kept too_late
kept_timely t m e h = grind (arith, nat_tests)

kept_again : (t : Terms) (m : ℕ) (es : List Reading) → AllByRecursion (λ e. (too_late t m e ≡ false) × (contains t e (kept_only t m es) ≡ true)) (kept_only t m es)
kept_again t m [] = tt
kept_again t m (e ∷ es) = grind (arith, nat_tests, kept_again t m es, same_reading_itself t e, kept_timely, All-weaker, or_right)

refused_again : (t : Terms) (s : Store) (e : Reading) → (too_late t s.watermark e ≡ false) × (contains t e s.seen ≡ true) → store_outcome t s (AReading e) ≡ refused (Duplicate e.time)
refused_again t s e h = simp (h.0, h.1)

-- A visit that is near to one that is merged in is there no more: what is made has more readings.
outgrown_merge : (t : Terms) (v u : Visit) (ws : List Visit) → v.count < u.count → some (same_visit t v) ws ≡ false → some (same_visit t v) (merge_in t u ws) ≡ false
outgrown_merge t v u [] h n = simp (fewer_differs t u v h).0
outgrown_merge t v u (w ∷ ws) h n =
    let d = or_parts (same_visit t v w) (some (same_visit t v) ws) n in
    split (near t u w)
    (λ o. simp (o, outgrown_merge t v (merged u w) ws (omega arith) d.1))
    (λ o. split (visit_before t w u)
    (λ b. simp (o, b, d.0, outgrown_merge t v u ws h d.1))
    (λ b. simp (o, b, (fewer_differs t u v h).0, d.0, d.1)))

wider_near : (t : Terms) (u w v : Visit) → near t u w ≡ true → near t u v ≡ true → near t (merged u w) v ≡ true
unfolding near
wider_near t u w v a b = grind (arith, nat_tests)

near_stop : (t : Terms) (u w v : Visit) → w.from ≤ w.to → near t u w ≡ false → visit_before t w u ≡ false → Follows t w v → near t u v ≡ false
unfolding near visit_before gap_of
near_stop t u w v h n b f = grind (arith, nat_tests)

pub near_merge : (t : Terms) (v u : Visit) (ws : List Visit) → Apart t ws → 1 ≤ u.count → near t u v ≡ true → some (same_visit t v) ws ≡ true
    → some (same_visit t v) (merge_in t u ws) ≡ false
near_merge t v u [] p h n i = absurd (both_ways false refl i)
near_merge t v u (w ∷ ws) p h n i =
    split (same_visit t v w)
    (λ s.
    let e = same_visits t v w s in
    let n' : near t u w ≡ true = subst (λ (x : Visit). near t u x ≡ true) e n in
    let c : v.count ≡ w.count = ap (λ (x : Visit). x.count) e in
    let k : v.count < (merged u w).count = omega arith in
    let o : some (same_visit t v) ws ≡ false = subst (λ (x : Visit). some (same_visit t x) ws ≡ false) (sym e) (absent_behind t w ws p.0 p.1) in
    let q = outgrown_merge t v (merged u w) ws k o in
    simp (n', q))
    (λ s.
    let j : some (same_visit t v) ws ≡ true = sym (ap (λ (b : Bool). b || some (same_visit t v) ws) s) ∙ i in
    split (near t u w)
    (λ o.
    let k : 1 ≤ (merged u w).count = omega arith in
    let ih = near_merge t v (merged u w) ws p.2 k (wider_near t u w v o n) j in
    simp (o, ih))
    (λ o. split (visit_before t w u)
    (λ b. let ih = near_merge t v u ws p.2 h n j in simp (o, b, s, ih))
    (λ b. absurd (both_ways (near t u v) (near_stop t u w v p.0 o b (all_some t (Follows t w) v ws p.1 j)) n))))

-- Of readings that are n at most, some serial up to n is not used.
abbrev used : ℕ → List Reading → Bool
used n xs = some (λ x. eqb x.serial n) xs

abbrev without : ℕ → List Reading → List Reading
without n xs = filter (λ x. not (eqb x.serial n)) xs

without_shorter : (n : ℕ) (xs : List Reading) → used n xs ≡ true → length (without n xs) < length xs
without_shorter n [] h = absurd (both_ways false refl h)
without_shorter n (x ∷ xs) h =
    split (eqb x.serial n)
    (λ o. let k = kept_shorter (λ y. not (eqb y.serial n)) xs in simp o (omega arith))
    (λ o. let ih = without_shorter n xs (sym (ap (λ (b : Bool). b || used n xs) o) ∙ h) in simp o (omega arith))

unused_without : (n k : ℕ) (xs : List Reading) → k < n → used k (without n xs) ≡ used k xs
unused_without n k [] h = refl
unused_without n k (x ∷ xs) h = grind (arith, nat_tests, unused_without n k xs h)

pub unused_serial : (n : ℕ) (xs : List Reading) → length xs ≤ n → (k : ℕ) × (k ≤ n) × (used k xs ≡ false)
unused_serial zero xs h = grind (arith, nat_tests, nil_from_length)
unused_serial (suc n) xs h =
    split (used (suc n) xs)
    (λ o.
    let l = without_shorter (suc n) xs o in
    let ih = unused_serial n (without (suc n) xs) (omega arith) in
    (ih.0, omega arith, sym (unused_without (suc n) ih.0 xs (omega arith)) ∙ ih.2))
    (λ o. (suc n, omega arith, o))

unused_differs : (t : Terms) (e x : Reading) → eqb x.serial e.serial ≡ false → same_reading t e x ≡ false
unfolding same_reading
unused_differs t e x h = grind (arith, nat_tests)

unused_new : (t : Terms) (e : Reading) (xs : List Reading) → used e.serial xs ≡ false → contains t e xs ≡ false
unused_new t e [] h = refl
unused_new t e (x ∷ xs) h =
    let k = or_parts (eqb x.serial e.serial) (used e.serial xs) h in
    simp (unused_differs t e x k.0, unused_new t e xs k.1)

-- A reading at a visit's end, or as late as may be after it, is not too late while the visit is live, and near to it.
abbrev reaching : Terms → ℕ → Visit → ℕ → Reading
reaching t m v n = record { card = v.card; time = max v.to (m - t.lateness); serial = n; amount = 0 }

reaching_timely : (t : Terms) (m : ℕ) (v : Visit) (n : ℕ) → too_late t m (reaching t m v n) ≡ false
unfolding too_late
reaching_timely t m v n = grind (arith, nat_tests)

reaching_near : (t : Terms) (m : ℕ) (v : Visit) (n : ℕ) → v.from ≤ v.to → live t m v ≡ true → near t (single (reaching t m v n)) v ≡ true
unfolding near live expired
reaching_near t m v n h l = grind (arith, nat_tests)

reading_live : (t : Terms) (s : Store) (e : Reading) → too_late t s.watermark e ≡ false → contains t e s.seen ≡ false
    → (store_step t s (AReading e)).live ≡ live_only t s.watermark (merge_in t (single e) s.live)
reading_live t s e a b = simp (a, b)

may_change : (t : Terms) (s : Store) → Apart t s.live → (v : Visit) → (v.from ≤ v.to) × (live t s.watermark v ≡ true) × (some (same_visit t v) s.live ≡ true) → MayChange t s v
may_change t s p v h =
    let u = unused_serial (length s.seen) s.seen (omega arith) in
    let e : Reading = reaching t s.watermark v u.0 in
    let a : too_late t s.watermark e ≡ false = reaching_timely t s.watermark v u.0 in
    let b : contains t e s.seen ≡ false = unused_new t e s.seen u.2 in
    let n : near t (single e) v ≡ true = reaching_near t s.watermark v u.0 h.0 h.1 in
    let g = near_merge t v (single e) s.live p (omega arith) n h.2 in (
      e,
      record {
        card = refl;
        time = omega arith;
        serial = u.1;
        amount = refl;
        timely = a;
        unseen = b;
        changes =
            ap (λ (vs : List Visit). some (same_visit t v) vs) (reading_live t s e a b)
            ∙ absent_kept t (live t s.watermark) v (merge_in t (single e) s.live) g;
      },
    )

pub image_needs : (t : Terms) (k : Reference) → SortedReadings t k.readings → NeedsAll t (image t k)
image_needs t k s =
    let vs : List Visit = live_only t k.watermark (visits t k.readings) in
    let p : Apart t vs = apart_kept t (live t k.watermark) (visits t k.readings) (visits_apart t k.readings s) in
    record {
      readings =
          All-weaker (λ e. (too_late t k.watermark e ≡ false) × (contains t e (kept_only t k.watermark k.readings) ≡ true))
          (λ e. store_outcome t (image t k) (AReading e) ≡ refused (Duplicate e.time))
          (refused_again t (image t k)) (kept_only t k.watermark k.readings) (kept_again t k.watermark k.readings);
      visits =
          All-weaker (λ v. (v.from ≤ v.to) × ((live t k.watermark v ≡ true) × (some (same_visit t v) vs ≡ true))) (MayChange t (image t k))
          (λ v h. may_change t (image t k) p v (h.0, h.1.0, h.1.1)) vs
          (all_both (λ v. v.from ≤ v.to) (λ v. (live t k.watermark v ≡ true) × (some (same_visit t v) vs ≡ true)) vs (apart_order t vs p)
          (all_both (λ v. live t k.watermark v ≡ true) (λ v. some (same_visit t v) vs ≡ true) vs (kept_by_passes (live t k.watermark) (visits t k.readings)) (all_in t vs)));
    }

pub nothing_in_vain : NothingInVain
nothing_in_vain t cs = subst (λ (s : Store). NeedsAll t s) (sym (all_kept t cs)) (image_needs t (after t empty cs) (reference_sorted t cs))
