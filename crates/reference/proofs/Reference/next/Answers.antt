use Rattle.std.proofs.Common.{◌<◌, length, vec_items, vec_len, ap, ◌∙◌, IsOk, subst, arith, rules}
use Rattle.model.specs.Sessions.{insert_reading}
use Rattle.reference.specs.State.{model_of, most_readings, plan_of}
use Rattle.visit.specs.Sums.{amounts}
use Rattle.reference.proofs.Bounds.{small_amount}
use Rattle.reference.proofs.Fitting.{insert_length, insert_shares}
use Rattle.reference.proofs.Reference.next.Goals as goal

-- One reading more, of a small amount.
pub invariant_of-result : goal.invariant_of-result
invariant_of-result c =
    let r = c.args.self.now in
    let t = r.clock.terms in
    let e = c.in-Reading.e in
    let old = vec_items r.readings in
    let room : vec_len r.readings < most_readings = search rules in
    let new = c.in_ok-readings-in-Reading.ensures ∙ ap (insert_reading t e) c.deref.ensures.value in
    let amount = small_amount t (model_of r) e (subst (λ d. IsOk (plan_of r d)) c.in-Reading.is c.requires) in
    record {
      few = omega (arith, ap length new, insert_length t e old);
      small = omega (arith, ap length new, insert_length t e old, ap amounts new, insert_shares (λ x. x.amount) t e old, r.small, r.few, amount);
    }
