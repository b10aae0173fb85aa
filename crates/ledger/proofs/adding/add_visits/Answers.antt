use Rattle.std.proofs.Common.{◌+◌, ◌≤◌, ◌∷◌, length, sym, refl, ap, ◌∙◌, subst, arith}
use Rattle.visit.specs.Lines.{line_before, line_of}
use Rattle.visit.specs.Sums.{sums}
use Rattle.model.specs.Ledger.{add_visits}
use Rattle.rows.specs.Tables.{rows_left, rows_of}
use Rattle.rows.proofs.Becoming.{becomes_as, becomes_len, becomes_long, becomes_then, length_of}
use Rattle.rows.proofs.Halves.{allows_kept}
use Rattle.visit.specs.Order.{RisingBy}
use Rattle.model.proofs.Rising.{rising_line}
use Rattle.ledger.specs.Fits.{Fits}
use Rattle.ledger.proofs.Fitting.{fits_first, fits_rest}
use Rattle.ledger.proofs.Visits.{add_longer}
use Rattle.ledger.proofs.adding.add_visits.Goals as goal

pub add_visit-requires : goal.add_visit-requires
add_visit-requires c =
    let was = c.loop-visit.table in
    let rest = rows_left c.next.new.self in
    let left' = ap length c.in-Some.ensures.steps in
    let within = becomes_long c.loop-visit.invariant.after (omega arith) (omega (arith, c.loop-visit.invariant.room)) in
    let fits : Fits (length (c.in-Some.visit ∷ rest)) (sums (c.in-Some.visit ∷ rest)) (rows_of was) =
    subst (λ vs. Fits (length vs) (sums vs) (rows_of was)) c.in-Some.ensures.steps c.loop-visit.invariant.fits in
    record {
      order = c.loop-visit.invariant.order;
      room = omega (arith, c.loop-visit.invariant.room);
      fits = fits_first c.args.terms c.in-Some.visit rest (rows_of was) fits;
    }

pub loop-visit-preserved : goal.loop-visit-preserved
loop-visit-preserved c =
    let t = c.args.terms in
    let was = c.loop-visit.table in
    let is = c.add_visit.new.table in
    let ls = rows_of was in
    let v = c.in-Some.visit in
    let rest = rows_left c.next.new.self in
    let so = c.loop-visit.invariant in
    let put = c.add_visit.ensures.after in
    let left' = ap length c.in-Some.ensures.steps in
    let longer = add_longer t (line_of t v) ls in
    let more : was.len ≤ is.len = omega (arith, length_of was, becomes_len put, longer.0) in
    let one : is.len ≤ was.len + 1 = omega (arith, length_of was, becomes_len put, longer.1) in
    let both = becomes_then so.after {n = is.len} put (omega arith) (omega arith) (omega arith) (omega arith) in
    let fits : Fits (length (v ∷ rest)) (sums (v ∷ rest)) ls = subst (λ vs. Fits (length vs) (sums vs) ls) c.in-Some.ensures.steps so.fits in
    record {
      order = allows_kept c.args.search (λ r. subst (RisingBy (line_before t)) (sym put.rows) (rising_line t (line_of t v) ls r)) so.order;
      more = omega (arith, so.more);
      room = omega (arith, so.room);
      fits = subst (Fits (length rest) (sums rest)) (sym put.rows) (fits_rest t v rest ls fits);
      lines = ap (add_visits t rest) put.rows ∙ ap (λ vs. add_visits t vs ls) (sym c.in-Some.ensures.steps) ∙ so.lines;
      after = becomes_as both refl (sym put.rows);
    }
