use Rattle.std.proofs.Common.{◌≤◌, max, sym, ap, refl, subst, arith}
use Rattle.model.specs.Ledger.{add_visits}
use Rattle.rows.specs.Tables.{rows_of, rows_seen}
use Rattle.rows.proofs.Becoming.{becomes_as, becomes_len, becomes_long, becomes_then, length_of}
use Rattle.visit.specs.Sums.{sums}
use Rattle.rows.proofs.Halves.{allows_kept}
use Rattle.visit.specs.Lines.{line_before}
use Rattle.visit.specs.Order.{RisingBy}
use Rattle.model.proofs.Rising.{rising_visits_taken}
use Rattle.ledger.proofs.Fitting.{fits_visits_taken}
use Rattle.ledger.proofs.Visits.{visits_shorter}
use Rattle.ledger.proofs.posting.post.Goals as goal

pub add_visits-requires : goal.add_visits-requires
add_visits-requires c =
    let t = c.args.terms in
    let gone = rows_seen c.args.changed.retracted in
    let new = rows_seen c.args.changed.added in
    let first = c.args.table.now in
    let rest = c.take_visits.new.table in
    let taken = c.take_visits.ensures.after in
    let fewer : rest.len ≤ first.len = omega (arith, becomes_len taken, length_of first, visits_shorter t gone (rows_of first)) in
    record {
      order = allows_kept c.args.search (λ r. subst (RisingBy (line_before t)) (sym taken.rows) (rising_visits_taken t gone (rows_of first) r)) c.requires.order;
      room = omega (arith, c.requires.room, becomes_long taken fewer first.fits);
      fits = rw taken.rows (fits_visits_taken t gone c.args.changed.added.len (sums new) (rows_of first) c.requires.fits);
    }

pub returns : goal.returns
returns c =
    let t = c.args.terms in
    let gone = rows_seen c.args.changed.retracted in
    let new = rows_seen c.args.changed.added in
    let first = c.args.table.now in
    let rest = c.take_visits.new.table in
    let last = c.add_visits.new.table in
    let taken = c.take_visits.ensures.after in
    let fewer : rest.len ≤ first.len = omega (arith, becomes_len taken, length_of first, visits_shorter t gone (rows_of first)) in
    let added = becomes_as c.add_visits.ensures.after refl (ap (add_visits t new) taken.rows) in
    record { after = becomes_then taken {n = max first.len last.len} added fewer (omega arith) (omega arith) (omega arith) }
