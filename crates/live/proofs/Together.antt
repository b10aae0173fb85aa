-- On visits that are in order and apart: the near ones stand together, and are near to the visit as it began.
use Rattle.std.proofs.Common.{◌≡◌, ℕ, suc, ◌+◌, ◌≤◌, true, false, cond, List, [], ◌∷◌, ◌++◌, length, take, drop, sym, refl, ap, ◌∙◌, arith}
use Rattle.std.specs.List.{AllByRecursion}
use Rattle.std.proofs.ByRecursion.{All-weaker}
use Rattle.std.proofs.lemmas.List.{drop_at, length-take-le, take_at}
use Rattle.std.proofs.lemmas.Bool.Decides.{nat_tests}
use Rattle.visit.specs.declared.Reading.{Reading}
use Rattle.visit.specs.declared.Terms.{Terms}
use Rattle.visit.specs.declared.Visit.{Visit}
use Rattle.visit.specs.Visits.{merged, near, single, visit_before}
use Rattle.model.specs.Few.{near_ones}
use Rattle.model.specs.Store.{merge_in}
use Rattle.model.proofs.Common.{all_both, kept_alike, split}
use Rattle.model.proofs.Merge.{merge_keeps_apart, near_two}
use Rattle.model.proofs.Order as model
use Rattle.live.specs.Apart.{Apart, WellBefore}
use Rattle.live.specs.Walk.{became, left_over, place_of, taken_in}
use Rattle.live.proofs.Parts.{length_parts, merge_parts, place_within}

-- The same as the model says.
pub apart_model : (t : Terms) (vs : List Visit) → Apart t vs → model.Apart t vs
apart_model t [] p = tt
apart_model t (v ∷ vs) p = (p.0, p.1, apart_model t vs p.2)

pub model_apart : (t : Terms) (vs : List Visit) → model.Apart t vs → Apart t vs
model_apart t [] p = tt
model_apart t (v ∷ vs) p = (p.0, p.1, model_apart t vs p.2)

-- The walk as the visit u began: the near ones that it meets, and how many it passes.
abbrev pub met : Terms → Visit → List Visit → List Visit
met t u [] = []
met t u (w ∷ ws) = cond (near t u w) (w ∷ met t u ws) (cond (visit_before t w u) (met t u ws) [])

abbrev pub passed : Terms → Visit → List Visit → ℕ
passed t u [] = 0
passed t u (w ∷ ws) = cond (near t u w) (passed t u ws) (cond (visit_before t w u) (1 + passed t u ws) 0)

-- A visit w is to g, which has taken in others, what it is to u.
abbrev Alike : Terms → Visit → Visit → Visit → Type 0
Alike t g u w = (near t g w ≡ near t u w) × (near t u w ≡ false → visit_before t w g ≡ visit_before t w u)

-- What follows a near visit well behind.
abbrev Behind : Terms → Visit → Visit → Type 0
Behind t x w = WellBefore t x w × (w.from ≤ w.to)

near_merged : (t : Terms) (g x : Visit) → g.from ≤ g.to → x.from ≤ x.to → near t g x ≡ true → (w : Visit) → Behind t x w → near t (merged g x) w ≡ near t g w
unfolding near
near_merged t g x h k n w b = grind (arith, nat_tests)

unpassed_merged : (t : Terms) (g x : Visit) → x.from ≤ x.to → near t g x ≡ true → (w : Visit) → Behind t x w → near t (merged g x) w ≡ false → visit_before t w (merged g x) ≡ false
unfolding near visit_before
unpassed_merged t g x k n w b f = grind (arith, nat_tests)

unpassed_near : (t : Terms) (g x : Visit) → g.from ≤ g.to → x.from ≤ x.to → near t g x ≡ true → (w : Visit) → Behind t x w → near t g w ≡ false → visit_before t w g ≡ false
unfolding near visit_before
unpassed_near t g x h k n w b f = grind (arith, nat_tests)

alike_merged : (t : Terms) (u g x : Visit) → g.from ≤ g.to → x.from ≤ x.to → near t g x ≡ true → (w : Visit) → Behind t x w × Alike t g u w → Alike t (merged g x) u w
alike_merged t u g x h k n w b =
    let same = near_merged t g x h k n w b.0 in (
      same ∙ b.1.0,
      λ f.
          let far = b.1.0 ∙ f in
          unpassed_merged t g x k n w b.0 (same ∙ far) ∙ sym (unpassed_near t g x h k n w b.0 far) ∙ b.1.1 f,
    )

all_behind : (t : Terms) (x : Visit) (ws : List Visit) → Apart t (x ∷ ws) → AllByRecursion (Behind t x) ws
all_behind t x ws p = all_both (WellBefore t x) (λ w. w.from ≤ w.to) ws p.1 (model.apart_order t ws (apart_model t ws p.2))

-- Behind a near visit none is passed.
none_passed : (t : Terms) (u : Visit) (ws : List Visit) → AllByRecursion (λ w. near t u w ≡ false → visit_before t w u ≡ false) ws → passed t u ws ≡ 0
none_passed t u [] a = refl
none_passed t u (w ∷ ws) a = split (near t u w) (λ n. simp n (none_passed t u ws a.1)) (λ n. simp (n, a.0 n))

-- The visits taken in, their place, and those left over, by the visit as it began.
pub record AsBegan (t : Terms) (g u : Visit) (vs : List Visit) : Type 0 where
  pub taken : taken_in t g vs ≡ met t u vs
  pub place : place_of t g vs ≡ passed t u vs
  pub lasting : left_over t g vs ≡ take (passed t u vs) vs ++ drop (passed t u vs + length (met t u vs)) vs

as_began : (t : Terms) (g u : Visit) (vs : List Visit) → g.from ≤ g.to → u.from ≤ u.to → AllByRecursion (Alike t g u) vs → Apart t vs → AsBegan t g u vs
as_began t g u [] h k a p = record { taken = refl; place = refl; lasting = refl }
as_began t g u (w ∷ ws) h k a p =
    let m = length (met t u ws) in
    split (near t u w)
    (λ n.
    let taken = a.0.0 ∙ n in
    let behind = all_behind t w ws p in
    let none = none_passed t u ws (All-weaker (Behind t w) (λ x. near t u x ≡ false → visit_before t x u ≡ false) (unpassed_near t u w k p.0 n) ws behind) in
    let alike = All-weaker _ (Alike t (merged g w) u) (alike_merged t u g w h p.0 taken) ws (all_both (Behind t w) (Alike t g u) ws behind a.1) in
    let rest = as_began t (merged g w) u ws (model.merged_order g w h) k alike p.2 in
    let next : suc m ≡ 0 + suc m = omega arith in
    let all : passed t u ws + m ≡ m = omega arith in
    record {
      taken = simp (taken, n) (ap (λ l. w ∷ l) rest.taken);
      place = simp (taken, n) rest.place;
      lasting = simp (taken, n, none) (rest.lasting ∙ rw (all, none) (ap (λ j. drop j (w ∷ ws)) next));
    })
    (λ n.
    let far = a.0.0 ∙ n in
    split (visit_before t w u)
    (λ b.
    let before = a.0.1 n ∙ b in
    let rest = as_began t g u ws h k a.1 p.2 in
    let next : 1 + passed t u ws ≡ suc (passed t u ws) = omega arith in
    let further : suc (passed t u ws + m) ≡ suc (passed t u ws) + m = omega arith in
    record {
      taken = simp (far, before, n, b) rest.taken;
      place = simp (far, before, n, b) (ap (λ j. 1 + j) rest.place);
      lasting = simp (far, before, n, b, next) (ap (λ l. w ∷ l) rest.lasting ∙ ap (λ j. w ∷ take (passed t u ws) ws ++ drop j (w ∷ ws)) further);
    })
    (λ b. let after = a.0.1 n ∙ b in record { taken = simp (far, after, n, b); place = simp (far, after, n, b); lasting = simp (far, after, n, b) }))

itself_alike : (t : Terms) (u : Visit) (vs : List Visit) → AllByRecursion (Alike t u u) vs
itself_alike t u [] = tt
itself_alike t u (v ∷ vs) = ((refl, λ _. refl), itself_alike t u vs)

pub by_the_first : (t : Terms) (u : Visit) (vs : List Visit) → u.from ≤ u.to → Apart t vs → AsBegan t u u vs
by_the_first t u vs h p = as_began t u u vs h h (itself_alike t u vs) p

-- A visit of one moment meets two at most.
met_near : (t : Terms) (u : Visit) (vs : List Visit) → length (met t u vs) ≤ length (near_ones t u vs)
met_near t u [] = omega arith
met_near t u (v ∷ vs) =
    let ih = met_near t u vs in
    split (near t u v) (λ n. simp n (omega arith)) (λ n. split (visit_before t v u) (λ b. simp (n, b) ih) (λ b. simp (n, b) (omega arith)))

reading_at : Visit → Reading
reading_at u = record { card = u.card; time = u.from; serial = 0; amount = u.sum }

near_moment : (t : Terms) (u : Visit) → u.from ≡ u.to → (v : Visit) → near t u v ≡ near t (single (reading_at u)) v
unfolding near reading_at
near_moment t u e v = rw (sym e)

pub met_few : (t : Terms) (u : Visit) (vs : List Visit) → u.from ≡ u.to → Apart t vs → length (met t u vs) ≤ 2
met_few t u vs e p =
    let same = ap length (kept_alike (near t u) (near t (single (reading_at u))) (near_moment t u e) vs) in
    omega (arith, met_near t u vs, near_two t (reading_at u) vs (apart_model t vs p))

-- The near visits give way to what the visit becomes.
pub merged_together : (t : Terms) (u : Visit) (vs : List Visit) → u.from ≤ u.to → Apart t vs
    → merge_in t u vs ≡ take (place_of t u vs) vs ++ (became t u vs ∷ drop (place_of t u vs + length (taken_in t u vs)) vs)
merged_together t u vs h p =
    let k = place_of t u vs in
    let rest = drop (k + length (taken_in t u vs)) vs in
    let first = by_the_first t u vs h p in
    let lasting : left_over t u vs ≡ take k vs ++ rest = first.lasting ∙ rw (sym first.place, sym first.taken) in
    let front : length (take k vs) ≡ k = length-take-le k vs (omega (arith, place_within t u vs, length_parts t u vs)) in
    merge_parts t u vs ∙ rw (lasting, take_at (take k vs) rest k front, drop_at (take k vs) rest k front)

-- They are in order and apart again.
pub merged_apart : (t : Terms) (u : Visit) (vs : List Visit) → u.from ≤ u.to → Apart t vs → Apart t (merge_in t u vs)
merged_apart t u vs h p = model_apart t (merge_in t u vs) (merge_keeps_apart t u vs h (apart_model t vs p))
