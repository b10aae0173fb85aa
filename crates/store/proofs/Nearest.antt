-- Visits gathered among others that are in order and apart, and what merging them changes.
use Rattle.std.proofs.Common.{◌≡◌, ◌≤◌, List, length, sym, ap, refl, ◌∙◌, arith}
use Rattle.visit.specs.declared.Clock.{Clock}
use Rattle.visit.specs.declared.Reading.{Reading}
use Rattle.visit.specs.declared.Visit.{Visit}
use Rattle.visit.specs.Visits.{single}
use Rattle.model.specs.Few.{merged_with}
use Rattle.live.specs.declared.gathering.Gathered.{Gathered}
use Rattle.live.specs.Apart.{Apart, Gathers, own}
use Rattle.live.specs.Near.{visits_of}
use Rattle.live.specs.Walk.{became, taken_in}
use Rattle.live.proofs.Parts.{taken_within}
use Rattle.live.proofs.Together.{apart_model}
use Rattle.changes.specs.Changed.{merging, met_changes}
use Rattle.changes.proofs.NearOnes.{apart_changes, became_merged}

module _ (k : Clock) (e : Reading) (vs : List Visit) {rows near : List Visit} {v : Visit} {g : Gathered}
    (one : v ≡ single e) (seen : rows ≡ vs) (gathers : Gathers k.terms v rows g) (lent : near ≡ visits_of g.near) where
  near_taken : near ≡ taken_in k.terms (single e) vs
  near_taken =
      let here : visits_of g.near ≡ taken_in k.terms v rows = cc gathers.near in
      lent ∙ here ∙ ap (λ (u : Visit). taken_in k.terms u rows) one ∙ ap (taken_in k.terms (single e)) seen

  pub near_few : length near ≤ length vs
  near_few = omega (arith, ap length near_taken, taken_within k.terms (single e) vs (length vs) refl)

  pub near_changes : {made : Visit} → own g ≡ v → made ≡ merged_with (own g) (visits_of g.near) → Apart k.terms vs → met_changes k.terms k.watermark made near ≡ merging k.terms k.watermark (single e) vs
  near_changes {made} its is p =
      let whole : made ≡ became k.terms (single e) vs =
      is ∙ ap (λ (u : Visit). merged_with u (visits_of g.near)) (its ∙ one) ∙ ap (merged_with (single e)) (sym lent ∙ near_taken) ∙ sym (became_merged k.terms (single e) vs) in
      rw (whole, near_taken) (apart_changes k.terms k.watermark e vs (apart_model k.terms vs p))
