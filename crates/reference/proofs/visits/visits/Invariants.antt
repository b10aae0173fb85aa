use Rattle.std.proofs.Common.{◌≡◌, List, ◌++◌, reverse, vec_items}
use Rattle.std.specs.Iterator.Adapters.{rev_source}
use Rattle.std.specs.Slice.Iter.{iter_rest}
use Rattle.visit.specs.declared.Reading.{Reading}
use Rattle.model.specs.Sessions.{visits}
use Rattle.reference.proofs.visits.visits.Given as goal

-- The visits so far are those of the readings that the iterator has given, from the back.
abbrev pub invariant-loop-reading : goal.invariant-loop-reading
invariant-loop-reading l =
    (done : List Reading)
    × (l.readings ≡ iter_rest (rev_source l.reading-iterator) ++ done)
    × (reverse (vec_items l.backwards) ≡ visits l.terms done)
