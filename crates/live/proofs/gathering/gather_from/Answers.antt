use Rattle.std.proofs.Common.{◌≡◌, drop, ◌∙◌, arith}
use Rattle.std.proofs.lemmas.List.Sums.{prefix_len-le-length}
use Rattle.visit.specs.Visits.{visit_before}
use Rattle.rows.specs.Visits.{visit_made, visit_width}
use Rattle.rows.proofs.Splits.{length_rows}
use Rattle.rows.specs.Tables.{rows_left, rows_seen}
use Rattle.live.proofs.Collecting.{collected_end, collected_from, collected_room, collected_stop}
use Rattle.live.proofs.gathering.gather_from.Goals as goal

pub split_at-requires : goal.split_at-requires
split_at-requires c =
    let vs = rows_seen c.args.rows in
    omega (arith, prefix_len-le-length (λ x. visit_before c.args.terms x c.args.visit) vs, length_rows visit_width visit_made c.args.rows.len c.args.rows.cells.now)

pub loop-row-init : goal.loop-row-init
loop-row-init c =
    let vs = rows_seen c.args.rows in
    let rest : rows_left c.into_iter-row-iterator.result ≡ drop c.args.start vs = c.into_iter-row-iterator.ensures.into_iter_gives.0 ∙ c.split_at.ensures.rest in
    (tt, tt, rw rest (collected_from c.args.terms c.args.visit vs c.args.start c.requires.apart c.requires.passed))

pub push-requires : goal.push-requires
push-requires c = collected_room c.requires.moment c.requires.apart c.loop-row.near c.loop-row.invariant.2 c.in-Some.row (rows_left c.next.new.self) c.in-Some.ensures.steps c.in-Take.ensures

pub returns-in-None-clause-gathers : goal.returns-in-None-clause-gathers
returns-in-None-clause-gathers c = collected_end c.requires.moment c.requires.apart c.loop-row.near c.loop-row.invariant.2 c.in-None.ensures.steps.0

pub returns-in-Stop-clause-gathers : goal.returns-in-Stop-clause-gathers
returns-in-Stop-clause-gathers c = collected_stop c.requires.moment c.requires.apart c.loop-row.near c.loop-row.invariant.2 c.in-Some.row (rows_left c.next.new.self) c.in-Some.ensures.steps c.in-Stop.ensures
