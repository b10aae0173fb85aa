-- A visit merged in, by the visits that it takes in, those that are left, and what it becomes.
use Rattle.std.proofs.Common.{◌≡◌, ℕ, Bool, false, not, ◌&&◌, ◌||◌, List, [], ◌∷◌, ◌++◌, length, take, drop, filter, sym, refl, ap, ◌∙◌, arith}
use Rattle.std.specs.List.{AllByRecursion}
use Rattle.std.proofs.ByRecursion.{All-weaker}
use Rattle.std.proofs.lemmas.List.{drop_at, take_at}
use Rattle.std.proofs.lemmas.Bool.Decides.{nat_tests}
use Rattle.std.proofs.lemmas.Bool.{and_right, or_left, or_right}
use Rattle.visit.specs.declared.Terms.{Terms}
use Rattle.visit.specs.declared.Visit.{Visit}
use Rattle.visit.specs.Visits.{closed, merged, near, same_visit, visit_before}
use Rattle.model.specs.Sessions.{closed_visits, difference, some}
use Rattle.model.specs.Store.{merge_in}
use Rattle.model.proofs.Common.{In, all_in, kept_alike, kept_none, some_append, split}
use Rattle.live.specs.Walk.{became, left_over, placed_of, taken_in}
use Rattle.changes.specs.Changed.{ByComparing, closed_besides, retracted_rows}
use Rattle.changes.proofs.Differences.{closed_difference}

module _ (t : Terms) (p : Visit → Bool) where
  -- Whether some visit passes a test, of the visits before and of those after.
  pub some_before : (v : Visit) (vs : List Visit) → some p vs ≡ (some p (left_over t v vs) || some p (taken_in t v vs))
  some_before v [] = refl
  some_before v (w ∷ ws) =
      split (near t v w)
      (λ n. let ih = some_before (merged v w) ws in grind (arith, nat_tests))
      (λ n. split (visit_before t w v) (λ b. let ih = some_before v ws in grind (arith, nat_tests)) (λ b. grind (arith, nat_tests)))

  pub some_after : (v : Visit) (vs : List Visit) → some p (merge_in t v vs) ≡ (p (became t v vs) || some p (left_over t v vs))
  some_after v [] = refl
  some_after v (w ∷ ws) =
      split (near t v w)
      (λ n. let ih = some_after (merged v w) ws in grind (arith, nat_tests))
      (λ n. split (visit_before t w v) (λ b. let ih = some_after v ws in grind (arith, nat_tests)) (λ b. grind (arith, nat_tests)))

  -- Where none of those left passes, only those taken in may pass before, and only what they become after.
  pub kept_before : (v : Visit) (vs : List Visit) → AllByRecursion (λ w. p w ≡ false) (left_over t v vs) → filter p vs ≡ filter p (taken_in t v vs)
  kept_before v [] a = refl
  kept_before v (w ∷ ws) a =
      split (near t v w)
      (λ n. let ih = kept_before (merged v w) ws (simp n at a) in simp (n, ih))
      (λ n. split (visit_before t w v)
      (λ b. let k : AllByRecursion (λ x. p x ≡ false) (w ∷ left_over t v ws) = simp (n, b) at a in simp (n, b, k.0, kept_before v ws k.1))
      (λ b. let k : AllByRecursion (λ x. p x ≡ false) (w ∷ ws) = simp (n, b) at a in simp (n, b) (kept_none p (w ∷ ws) k)))

  pub kept_after : (v : Visit) (vs : List Visit) → AllByRecursion (λ w. p w ≡ false) (left_over t v vs) → filter p (merge_in t v vs) ≡ filter p (became t v vs ∷ [])
  kept_after v [] a = refl
  kept_after v (w ∷ ws) a =
      split (near t v w)
      (λ n. let ih = kept_after (merged v w) ws (simp n at a) in simp (n, ih))
      (λ n. split (visit_before t w v)
      (λ b. let k : AllByRecursion (λ x. p x ≡ false) (w ∷ left_over t v ws) = simp (n, b) at a in simp (n, b, k.0, kept_after v ws k.1))
      (λ b. let k : AllByRecursion (λ x. p x ≡ false) (w ∷ ws) = simp (n, b) at a in simp (n, b, kept_none p (w ∷ ws) k)))

-- A visit that is left is there before and after, so neither list misses it.
besides_in : (t : Terms) (m : ℕ) (ws : List Visit) (v : Visit) → In t ws v → closed_besides t m ws v ≡ false
besides_in t m ws v h = and_right (closed t m v) (not (some (same_visit t v) ws)) (ap not h)

besides_alike : (t : Terms) (m : ℕ) (us ws : List Visit) → ((v : Visit) → some (same_visit t v) us ≡ some (same_visit t v) ws)
    → (vs : List Visit) → filter (closed_besides t m us) vs ≡ filter (closed_besides t m ws) vs
besides_alike t m us ws h vs = kept_alike (closed_besides t m us) (closed_besides t m ws) (λ v. ap (λ (b : Bool). closed t m v && not b) (h v)) vs

module _ (t : Terms) (m : ℕ) (v : Visit) (vs : List Visit) where
  pub retracted_by : difference t (closed_visits t m vs) (closed_visits t m (merge_in t v vs)) ≡ filter (closed_besides t m (became t v vs ∷ left_over t v vs)) (taken_in t v vs)
  retracted_by =
      let rest = left_over t v vs in
      let stays : AllByRecursion (λ w. closed_besides t m (merge_in t v vs) w ≡ false) rest =
      All-weaker (In t rest) (λ w. closed_besides t m (merge_in t v vs) w ≡ false)
      (λ w h. besides_in t m (merge_in t v vs) w (some_after t (same_visit t w) v vs ∙ or_right (same_visit t w (became t v vs)) (some (same_visit t w) rest) h)) rest (all_in t rest) in
      closed_difference t m vs (merge_in t v vs)
      ∙ kept_before t (closed_besides t m (merge_in t v vs)) v vs stays
      ∙ besides_alike t m (merge_in t v vs) (became t v vs ∷ rest) (λ w. some_after t (same_visit t w) v vs) (taken_in t v vs)

  pub added_by : difference t (closed_visits t m (merge_in t v vs)) (closed_visits t m vs) ≡ filter (closed_besides t m (left_over t v vs ++ taken_in t v vs)) (became t v vs ∷ [])
  added_by =
      let rest = left_over t v vs in
      let taken = taken_in t v vs in
      let stays : AllByRecursion (λ w. closed_besides t m vs w ≡ false) rest =
      All-weaker (In t rest) (λ w. closed_besides t m vs w ≡ false)
      (λ w h. besides_in t m vs w (some_before t (same_visit t w) v vs ∙ or_left (some (same_visit t w) rest) (some (same_visit t w) taken) h)) rest (all_in t rest) in
      closed_difference t m (merge_in t v vs) vs
      ∙ kept_after t (closed_besides t m vs) v vs stays
      ∙ besides_alike t m vs (rest ++ taken) (λ w. some_before t (same_visit t w) v vs ∙ sym (some_append (same_visit t w) rest taken)) (became t v vs ∷ [])

pub by_comparing : ByComparing
by_comparing t m v vs p rows q r =
    let rest = left_over t v vs in
    let taken = taken_in t v vs in
    let front : take (length rest) (rest ++ taken) ≡ rest = take_at rest taken (length rest) refl in
    let back : drop (length rest) (rest ++ taken) ≡ taken = drop_at rest taken (length rest) refl in
    let gone : retracted_rows t m (placed_of t v vs) (rest ++ taken) ≡ difference t (closed_visits t m vs) (closed_visits t m (merge_in t v vs)) = rw (front, back) (sym (retracted_by t m v vs)) in
    rw (q, r) (cc (gone, added_by t m v vs))
