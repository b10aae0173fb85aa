use Rattle.rows.proofs.Copying.{Written}
use Rattle.rows.proofs.access.put_rows.Given as goal

abbrev pub invariant-loop-row : goal.invariant-loop-row
invariant-loop-row g l = Written g.R.Row.laws l.yielded l.count l.initial.target l.target
