use Rattle.std.proofs.Common.{◌++◌, ◌∙◌, ap, arith}
use Rattle.std.specs.Iterator.Adapters.{rev_source}
use Rattle.std.specs.Slice.Iter.{iter_rest}
use Rattle.visit.specs.Sums.{counts, sums}
use Rattle.reference.proofs.Fitting.{ones, shares_behind, visits_counts, visits_sums}
use Rattle.reference.proofs.visits.visits.Goals as goal

pub prepend-requires : goal.prepend-requires
prepend-requires c =
    let done = c.loop-reading.invariant.0 in
    let e = c.in-Some.reading.now in
    let rest = iter_rest (rev_source c.next.new.self) in
    let split = c.loop-reading.invariant.1 ∙ ap (λ es. es ++ done) c.in-Some.ensures.steps in
    record {
      count =
          omega (
            arith,
            ap counts c.loop-reading.invariant.2,
            visits_counts c.args.terms done,
            ones done,
            ones c.args.readings.now,
            shares_behind (λ _. 1) c.args.readings.now rest done e split,
            c.iter.ensures.bound,
          );
      sum =
          omega (
            arith,
            ap sums c.loop-reading.invariant.2,
            visits_sums c.args.terms done,
            shares_behind (λ r. r.amount) c.args.readings.now rest done e split,
          );
    }
