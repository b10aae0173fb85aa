use Rattle.std.proofs.Common.{drop}
use Rattle.live.specs.Near.{visits_of}
use Rattle.live.proofs.Wholes.{Whole}
use Rattle.live.proofs.gathering.merge_all.Given as goal

abbrev pub invariant-loop-visit : goal.invariant-loop-visit
invariant-loop-visit l = Whole l.gathered.visit (visits_of l.gathered.near) l.whole (drop l.visit-index (visits_of l.gathered.near))
