use Rattle.std.proofs.Common.{◌≡◌, drop, sym, ◌∙◌, subst, arith}
use Rattle.std.specs.List.{AllByRecursion}
use Rattle.rows.specs.Lines.{line_laws, line_limited, line_limits}
use Rattle.rows.specs.Visits.{visit_laws, visit_limited, visit_limits, visit_made, visit_width}
use Rattle.rows.specs.Out.{new_at, new_count, new_in}
use Rattle.rows.specs.Tables.{rows_of, rows_seen}
use Rattle.rows.proofs.Overs.{none_over}
use Rattle.rows.proofs.Splits.{length_rows}
use Rattle.visit.specs.Sums.{sums}
use Rattle.rows.proofs.Within.{VisitWithin, sums_within}
use Rattle.ledger.proofs.Limits.{LineWithin, fits_within}
use Rattle.ledger.proofs.tests.post_within.Goals as goal

pub post-requires-clause-fits : goal.post-requires-clause-fits
post-requires-clause-fits c =
    let out = c.args.out.now in
    let table = c.rows.result in
    let added = c.read-changed.result.added in
    let held : rows_seen table ≡ rows_of c.new-table.result = cc in
    let lines = subst (AllByRecursion LineWithin) held (none_over line_laws line_limits line_limited 0 table.len table.cells.now table.fits (sym c.first_over.ensures ∙ c.in-None.is)) in
    let visits = subst (AllByRecursion VisitWithin) c.read-changed.ensures.added
    (none_over visit_laws visit_limits visit_limited 0 added.len added.cells.now added.fits (sym c.first_over-2.ensures ∙ c.in-None-first_over.is)) in
    let many = length_rows visit_width visit_made (new_count out) (drop (new_at out) out) in
    rw (c.read-changed.ensures.added, c.read-changed.ensures.added_len)
    (fits_within (new_count out) (sums (new_in out)) (rows_of c.new-table.result) (omega arith) (omega (arith, sums_within (new_in out) visits, many)) lines)
