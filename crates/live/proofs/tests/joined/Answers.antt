use Rattle.std.proofs.Common.{◌≤◌, sym, ◌∙◌, arith}
use Rattle.rows.specs.Tables.{rows_of}
use Rattle.rows.proofs.Becoming.{becomes_len, becomes_long, length_of}
use Rattle.visit.specs.declared.Terms.{Terms}
use Rattle.live.specs.Apart.{own}
use Rattle.live.proofs.Fitting.{counts_limited, sums_limited}
use Rattle.live.proofs.Parts.{left_within, length_merged}
use Rattle.live.proofs.Together.{merged_apart}
use Rattle.live.proofs.tests.joined.Goals as goal

pub merge_apart-requires-clause-fits : goal.merge_apart-requires-clause-fits
merge_apart-requires-clause-fits c =
    let seen = c.rows.result in
    let t = c.loop-reading.table in
    rw c.gather-gathered.ensures.own
    (record {
      count = omega (arith, counts_limited seen.len seen.cells.now seen.fits c.in-None.ensures t.len t.cells.now (sym c.rows.ensures.len) (sym c.rows.ensures.cells));
      sum = omega (arith, sums_limited seen.len seen.cells.now seen.fits c.in-None.ensures t.len t.cells.now (sym c.rows.ensures.len) (sym c.rows.ensures.cells));
    })

pub loop-reading-preserved : goal.loop-reading-preserved
loop-reading-preserved c =
    let t = c.loop-reading.table in
    let v = own c.gather-gathered.result in
    let terms : Terms = record { gap = c.args.gap; lateness = 30; day = 100 } in
    let after = c.merge_apart.ensures.after in
    let few = left_within terms v (rows_of t) t.len (length_of t) in
    let order : v.from ≤ v.to = rw c.gather-gathered.ensures.own (omega arith) in
    let inside = becomes_long after (omega arith) (omega (arith, t.fits, becomes_len after, length_merged terms v (rows_of t), few, c.loop-reading.invariant.whole)) in
    record {
      same = after.same ∙ c.loop-reading.invariant.same;
      whole = inside ∙ c.loop-reading.invariant.whole;
      apart = rw after.rows (merged_apart terms v (rows_of t) order c.loop-reading.invariant.apart);
    }
