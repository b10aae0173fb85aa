use Rattle.std.specs.Io.KnownBytes.{Keeps}
use Rattle.report.proofs.streams.read_piece.Given as goal

abbrev pub invariant-loop : goal.invariant-loop
invariant-loop g l = Keeps (g.R.Read.remaining l.initial.source) (g.R.Read.remaining l.source)
