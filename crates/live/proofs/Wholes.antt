-- One visit made of several, one after the other.
use Rattle.std.proofs.Common.{◌≡◌, ℕ, ◌+◌, List, ◌∷◌, sum_by, sym, ap, ◌∙◌, arith}
use Rattle.std.proofs.lemmas.List.Sums.{sum_by-cons}
use Rattle.visit.specs.declared.Visit.{Visit}
use Rattle.visit.specs.Visits.{merged}
use Rattle.model.specs.Few.{merged_with}
use Rattle.visit.specs.Sums.{counts, sums}

-- Of v and the visits vs all but the rest are merged into one.
pub record Whole (v : Visit) (vs : List Visit) (whole : Visit) (rest : List Visit) : Type 0 where
  pub becomes : merged_with whole rest ≡ merged_with v vs
  pub count : whole.count + counts rest ≡ v.count + counts vs
  pub sum : whole.sum + sums rest ≡ v.sum + sums vs

module _ {v : Visit} {vs : List Visit} {whole : Visit} {rest : List Visit} (so : Whole v vs whole rest) (x : Visit) (left' : List Visit) (next : rest ≡ x ∷ left') where
  pub share_next : (f : Visit → ℕ) → sum_by f rest ≡ f x + sum_by f left'
  share_next f = ap (sum_by f) next ∙ sum_by-cons f x left'

  pub whole_more : (z : Visit) → z ≡ merged whole x → Whole v vs z left'
  whole_more z e =
      record {
        becomes = ap (λ u. merged_with u left') e ∙ sym (ap (merged_with whole) next) ∙ so.becomes;
        count = omega (arith, so.count, share_next (λ u. u.count), ap (λ (u : Visit). u.count) e);
        sum = omega (arith, so.sum, share_next (λ u. u.sum), ap (λ (u : Visit). u.sum) e);
      }
