use Rattle.std.proofs.Common.{not, vec_items, refl, ap, ◌∙◌, arith}
use Rattle.std.proofs.lemmas.List.Filters.{sum_by-filter_both}
use Rattle.visit.specs.declared.Visit.{Visit}
use Rattle.visit.specs.Visits.{closed}
use Rattle.model.specs.Sessions.{visits}
use Rattle.visit.specs.Sums.{sums}
use Rattle.reference.proofs.Fitting.{visits_sums}
use Rattle.reference.proofs.Reference.ledger.Goals as goal

-- The closed visits sum to no more than all readings.
pub totals-requires : goal.totals-requires
totals-requires c =
    let t = c.args.self.now.clock.terms in
    let m = c.args.self.now.clock.watermark in
    let all = vec_items c.args.self.now.readings in
    omega (
      arith,
      ap sums (c.deref.ensures.value ∙ c.in_ok-closed.ensures),
      visits_sums t all,
      sum_by-filter_both (closed t m) (λ v. not (closed t m v)) (λ v. refl) (λ (v : Visit). v.sum) (visits t all),
      c.args.self.now.small,
      c.args.self.now.few,
    )
