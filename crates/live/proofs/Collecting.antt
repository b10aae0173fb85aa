-- Near visits collected one after the other.
use Rattle.std.proofs.Common.{◌≡◌, ℕ, zero, suc, ◌+◌, ◌-◌, ◌<◌, ◌≤◌, true, false, List, [], ◌∷◌, ◌++◌, length, drop, sym, refl, ap, ◌∙◌, arith}
use Rattle.std.specs.List.{AllByRecursion, prefix_len}
use Rattle.std.proofs.lemmas.Bool.Decides.{nat_tests}
use Rattle.std.proofs.lemmas.List.{append_assoc, append-nil, length-append}
use Rattle.visit.specs.declared.Terms.{Terms}
use Rattle.visit.specs.declared.Visit.{Visit}
use Rattle.visit.specs.Visits.{near, visit_before}
use Rattle.model.proofs.Common.{split}
use Rattle.live.specs.Apart.{Apart, Gathers, WellBefore}
use Rattle.live.specs.Near.{visits_of}
use Rattle.live.specs.Steps.{step_of}
use Rattle.live.specs.declared.near.Near.{Near}
use Rattle.live.specs.declared.steps.Step.TheVariants.{Take, Pass, Stop}
use Rattle.live.proofs.Stepping.{passed_before, stopped_neither, taken_near}
use Rattle.live.proofs.Together.{by_the_first, met, met_few, passed}

-- Those collected of the visits vs, and what the visit u still meets in the rest of them.
pub record Collected (t : Terms) (u : Visit) (vs items : List Visit) (at : ℕ) (rest : List Visit) : Type 0 where
  pub held : items ++ met t u rest ≡ met t u vs
  pub place : at + passed t u rest ≡ passed t u vs
  pub behind : at + length rest ≤ length vs

-- A visit is not near to u if one that stands well behind it comes before u.
far_before : (t : Terms) (u v w : Visit) → WellBefore t v w → visit_before t w u ≡ true → near t u v ≡ false
unfolding near visit_before
far_before t u v w b q = grind (arith, nat_tests)

far_in_front : (t : Terms) (u v : Visit) (ws : List Visit) → AllByRecursion (WellBefore t v) ws → 0 < prefix_len (λ w. visit_before t w u) ws → near t u v ≡ false
far_in_front t u v [] a some = absurd (omega arith)
far_in_front t u v (w ∷ ws) a some = split (visit_before t w u) (far_before t u v w a.0) (λ b. absurd (omega (arith, simp b at some)))

-- So the walk may begin at the last visit before u.
pub collected_from : (t : Terms) (u : Visit) (vs : List Visit) (k : ℕ) → Apart t vs → k ≤ prefix_len (λ w. visit_before t w u) vs - 1
    → Collected t u vs [] k (drop k vs)
collected_from t u vs zero p h = record { held = refl; place = omega arith; behind = omega arith }
collected_from t u [] (suc k) p h = absurd (omega arith)
collected_from t u (v ∷ vs) (suc k) p h =
    split (visit_before t v u)
    (λ b.
    let more = simp b at h in
    let far = far_in_front t u v vs p.1 (omega (arith, more)) in
    let rest = collected_from t u vs k p.2 (omega (arith, more)) in
    record { held = simp (far, b) rest.held; place = simp (far, b) (omega (arith, rest.place)); behind = omega (arith, rest.behind) })
    (λ b. absurd (omega (arith, simp b at h)))

module _ {t : Terms} {u : Visit} {vs : List Visit} (moment : u.from ≡ u.to) (apart : Apart t vs) where
  module _ (near : Near) {at : ℕ} {rest : List Visit} (so : Collected t u vs (visits_of near) at rest) where
    -- All that are near have been met.
    collected_all : met t u rest ≡ [] → passed t u rest ≡ 0 → Gathers t u vs (record { visit = u; near = near; at = at })
    collected_all none found =
        let first = by_the_first t u vs (omega arith) apart in
        let all : visits_of near ≡ met t u vs = sym (append-nil (visits_of near)) ∙ ap (λ l. visits_of near ++ l) (sym none) ∙ so.held in
        record {
          few = omega (arith, ap length all, met_few t u vs moment apart);
          near = ap (λ l. u ∷ l) (all ∙ sym first.taken);
          place = omega (arith, so.place, first.place);
        }

    pub collected_end : rest ≡ [] → Gathers t u vs (record { visit = u; near = near; at = at })
    collected_end none = collected_all (ap (met t u) none) (ap (passed t u) none)

    module _ (x : Visit) (left' : List Visit) (next : rest ≡ x ∷ left') where
      pub collected_stop : Stop ≡ step_of t u x → Gathers t u vs (record { visit = u; near = near; at = at })
      collected_stop step =
          let far = (stopped_neither t u x step).0 in
          let after = (stopped_neither t u x step).1 in
          collected_all (ap (met t u) next ∙ simp (far, after)) (ap (passed t u) next ∙ simp (far, after))

      pub collected_past : Pass ≡ step_of t u x → Collected t u vs (visits_of near) (at + 1) left'
      collected_past step =
          let far = (passed_before t u x step).0 in
          let before = (passed_before t u x step).1 in
          let same : met t u rest ≡ met t u left' = ap (met t u) next ∙ simp (far, before) in
          let one : passed t u rest ≡ 1 + passed t u left' = ap (passed t u) next ∙ simp (far, before) in
          record { held = ap (λ l. visits_of near ++ l) (sym same) ∙ so.held; place = omega (arith, so.place); behind = omega (arith, so.behind, ap length next) }

      module _ (step : Take ≡ step_of t u x) where
        one_more : met t u rest ≡ x ∷ met t u left'
        one_more = let is_near = taken_near t u x step in ap (met t u) next ∙ simp is_near

        -- There is room for one more, since two at most are met.
        pub collected_room : length (visits_of near) < 2
        collected_room = omega (arith, met_few t u vs moment apart, ap length so.held, length-append (visits_of near) (met t u rest), ap length one_more)

        pub collected_taken : Collected t u vs (visits_of near ++ x ∷ []) at left'
        collected_taken =
            let is_near = taken_near t u x step in
            let same : passed t u rest ≡ passed t u left' = ap (passed t u) next ∙ simp is_near in
            record {
              held = append_assoc (visits_of near) (x ∷ []) (met t u left') ∙ ap (λ l. visits_of near ++ l) (sym one_more) ∙ so.held;
              place = omega (arith, so.place);
              behind = omega (arith, so.behind, ap length next);
            }
