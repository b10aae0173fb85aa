use Rattle.std.proofs.Common.{sym, ◌∙◌, arith}
use Rattle.live.proofs.Fitting.{counts_limited, sums_limited}
use Rattle.live.proofs.tests.merged.Goals as goal

pub set_aside-placed-requires : goal.set_aside-placed-requires
set_aside-placed-requires c =
    let seen = c.new.result in
    let t = c.new-2.result in
    let len = c.new-2.ensures.len ∙ sym c.new.ensures.len in
    let cells = c.new-2.ensures.cells ∙ sym c.new.ensures.cells in
    record {
      fits = record {
        count = omega (arith, len, c.new.ensures.len, counts_limited seen.len seen.cells.now seen.fits c.in-None.ensures t.len t.cells.now len cells);
        sum = omega (arith, len, c.new.ensures.len, sums_limited seen.len seen.cells.now seen.fits c.in-None.ensures t.len t.cells.now len cells);
      };
    }

pub merge-requires-clause-fits : goal.merge-requires-clause-fits
merge-requires-clause-fits c =
    let seen = c.new.result in
    let t = c.new-table.result in
    let len = c.new-table.ensures.len ∙ sym c.new.ensures.len in
    let cells = c.new-table.ensures.cells ∙ sym c.new.ensures.cells in
    record {
      count = omega (arith, len, c.new.ensures.len, counts_limited seen.len seen.cells.now seen.fits c.in-None.ensures t.len t.cells.now len cells);
      sum = omega (arith, len, c.new.ensures.len, sums_limited seen.len seen.cells.now seen.fits c.in-None.ensures t.len t.cells.now len cells);
    }
