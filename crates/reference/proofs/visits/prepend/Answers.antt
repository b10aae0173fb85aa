use Rattle.std.proofs.Common.{rules, ◌∙◌, sym, vec_items, vec_len, ◌-◌, ◌<◌, set, ap, reverse, arith}
use Rattle.reference.proofs.Backwards.{prepend_joins}
use Rattle.reference.proofs.visits.prepend.Goals as goal

pub returns-in-Some : goal.returns-in-Some
returns-in-Some c =
    let xs = vec_items c.args.backwards.now in
    let some : 0 < vec_len c.args.backwards.now = search rules in
    let i = vec_len c.args.backwards.now - 1 in
    ap (λ v. reverse (set xs i v)) c.grown.ensures
    ∙ prepend_joins c.args.terms c.args.reading xs i c.in-Some.front.now (omega (arith, c.args.backwards.now.ok.0)) c.in-Some.ensures.value (sym c.if-joins.ensures)
