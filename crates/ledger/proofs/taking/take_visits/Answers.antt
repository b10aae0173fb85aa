use Rattle.std.proofs.Common.{◌≤◌, sym, refl, ap, ◌∙◌, subst, arith}
use Rattle.model.specs.Ledger.{take_visits}
use Rattle.rows.specs.Tables.{rows_left, rows_of}
use Rattle.rows.proofs.Becoming.{becomes_as, becomes_len, becomes_then, length_of}
use Rattle.rows.proofs.Halves.{allows_kept}
use Rattle.visit.specs.Lines.{line_before, line_of}
use Rattle.visit.specs.Order.{RisingBy}
use Rattle.model.proofs.Rising.{rising_taken}
use Rattle.ledger.proofs.Visits.{take_shorter}
use Rattle.ledger.proofs.taking.take_visits.Goals as goal

pub loop-visit-preserved : goal.loop-visit-preserved
loop-visit-preserved c =
    let t = c.args.terms in
    let first = c.args.table.now in
    let was = c.loop-visit.table in
    let is = c.take_visit.new.table in
    let ls = rows_of was in
    let so = c.loop-visit.invariant in
    let taken = c.take_visit.ensures.after in
    let fewer : is.len ≤ was.len = omega (arith, becomes_len taken, length_of was, take_shorter t (line_of t c.in-Some.visit) ls) in
    let both = becomes_then so.after {n = first.len} taken so.fewer (omega arith) fewer (omega (arith, so.fewer)) in
    record {
      order = allows_kept c.args.search (λ r. subst (RisingBy (line_before t)) (sym taken.rows) (rising_taken t (line_of t c.in-Some.visit) ls r)) so.order;
      fewer = omega (arith, so.fewer);
      lines = ap (take_visits t (rows_left c.next.new.self)) taken.rows
          ∙ ap (λ vs. take_visits t vs ls) (sym c.in-Some.ensures.steps) ∙ so.lines;
      after = becomes_as both refl (sym taken.rows);
    }
