use Rattle.std.proofs.Common.{subst, arith}
use Rattle.rows.specs.Tables.{rows_of}
use Rattle.rows.proofs.Becoming.{length_of}
use Rattle.changes.specs.Out.{OutAfter}
use Rattle.store.proofs.Nearest.{near_changes, near_few}
use Rattle.store.proofs.Views.{seen_at}
use Rattle.store.proofs.steps.merge_near.Goals as goal

pub by_reading_apart-requires : goal.by_reading_apart-requires
by_reading_apart-requires c =
    let t = c.args.visits.now in
    let seen = seen_at c.rows.result t.len t.cells.now c.rows.ensures.cells c.rows.ensures.len in
    omega (arith, near_few c.args.clock c.args.reading (rows_of t) c.single.ensures seen c.gather-gathered.ensures.gathers c.as_slice.ensures, length_of t, c.requires.out)

pub returns-clause-out : goal.returns-clause-out
returns-clause-out c =
    let t = c.args.visits.now in
    let seen = seen_at c.rows.result t.len t.cells.now c.rows.ensures.cells c.rows.ensures.len in
    subst (λ o. OutAfter o c.by_reading_apart.result c.args.out.now c.by_reading_apart.new.out)
    (near_changes c.args.clock c.args.reading (rows_of t) c.single.ensures seen c.gather-gathered.ensures.gathers c.as_slice.ensures c.gather-gathered.ensures.own c.merge_apart-made.ensures.made c.requires.apart) c.by_reading_apart.ensures
