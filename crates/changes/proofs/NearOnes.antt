-- Visits in order and apart: a visit takes in those that it is near to, and changes no others.
use Rattle.std.proofs.Common.{◌≡◌, ℕ, ◌≤◌, true, false, List, [], ◌∷◌, sym, refl, ap, ◌∙◌, arith}
use Rattle.std.proofs.ByRecursion.{All-weaker}
use Rattle.std.proofs.lemmas.Bool.Decides.{nat_tests}
use Rattle.visit.specs.declared.Reading.{Reading}
use Rattle.visit.specs.declared.Terms.{Terms}
use Rattle.visit.specs.declared.Visit.{Visit}
use Rattle.visit.specs.Visits.{merged, near, single, visit_before}
use Rattle.model.specs.Few.{merged_with, near_ones}
use Rattle.model.proofs.Changes.{merging_changes}
use Rattle.model.proofs.Common.{all_both, kept_agree, kept_none, split}
use Rattle.model.proofs.Order.{Apart, Follows, all_follow, apart_order, merged_order}
use Rattle.live.specs.Walk.{became, taken_in}
use Rattle.changes.specs.Changed.{merging, met_changes}

-- On any visits, what a visit becomes is made of it and those that it takes in.
pub became_merged : (t : Terms) (v : Visit) (vs : List Visit) → became t v vs ≡ merged_with v (taken_in t v vs)
became_merged t v [] = refl
became_merged t v (w ∷ ws) =
    split (near t v w)
    (λ n. simp n (became_merged t (merged v w) ws))
    (λ n. split (visit_before t w v) (λ b. simp (n, b) (became_merged t v ws)) (λ b. simp (n, b)))

-- To what follows a visit taken in, the visit made is near if the first was; what follows a visit that stops the walk is near to neither.
near_same : (t : Terms) (u v : Visit) → u.from ≤ u.to → near t u v ≡ true → v.from ≤ v.to → (w : Visit) → Follows t v w × (w.from ≤ w.to) → near t (merged u v) w ≡ near t u w
unfolding near
near_same t u v h n k w f = grind (arith, nat_tests)

stopped_follows : (t : Terms) (u v : Visit) → v.from ≤ v.to → u.from ≤ u.to → near t u v ≡ false → visit_before t v u ≡ false → Follows t u v
unfolding near visit_before
stopped_follows t u v h k n b = (grind (arith, nat_tests), grind (arith, nat_tests))

follows_not_near : (t : Terms) (u : Visit) → (w : Visit) → Follows t u w → near t u w ≡ false
unfolding near
follows_not_near t u w f = grind (arith, nat_tests)

pub taken_near : (t : Terms) (u : Visit) (vs : List Visit) → u.from ≤ u.to → Apart t vs → taken_in t u vs ≡ near_ones t u vs
taken_near t u [] h p = refl
taken_near t u (v ∷ vs) h p =
    split (near t u v)
    (λ n. let alike = All-weaker (λ w. Follows t v w × (w.from ≤ w.to)) (λ w. near t (merged u v) w ≡ near t u w) (near_same t u v h n p.0) vs (all_both (Follows t v) (λ w. w.from ≤ w.to) vs p.1 (apart_order t vs p.2)) in
    simp n (ap (λ (l : List Visit). v ∷ l) (taken_near t (merged u v) vs (merged_order u v h) p.2 ∙ kept_agree (near t (merged u v)) (near t u) vs alike)))
    (λ n. split (visit_before t v u)
    (λ b. simp (n, b) (taken_near t u vs h p.2))
    (λ b. let far = All-weaker (Follows t u) (λ w. near t u w ≡ false) (follows_not_near t u) vs (all_follow t u v vs (stopped_follows t u v p.0 h n b) p.0 p.1) in
    simp (n, b) (sym (kept_none (near t u) vs far))))

-- So a reading changes just the visits that it is near to and what these become.
pub apart_changes : (t : Terms) (m : ℕ) (e : Reading) (vs : List Visit) → Apart t vs
    → met_changes t m (became t (single e) vs) (taken_in t (single e) vs) ≡ merging t m (single e) vs
apart_changes t m e vs p =
    let made = became_merged t (single e) vs ∙ ap (merged_with (single e)) (taken_near t (single e) vs (omega arith) p) in
    rw (made, taken_near t (single e) vs (omega arith) p) (sym (merging_changes t m e vs p))
