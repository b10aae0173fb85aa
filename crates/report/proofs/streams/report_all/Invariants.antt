use Rattle.std.proofs.Common.{◌<◌, vec_len}
use Rattle.report.specs.Streams.{Advances}
use Rattle.report.proofs.streams.report_all.Given as goal

abbrev pub invariant-loop : goal.invariant-loop
invariant-loop g l = record {
  advances : Advances g.S.Sessions.prints l.initial.reporting (g.R.Read.remaining l.initial.source) (g.W.Write.contents l.initial.out) l.count (g.R.Read.remaining l.source) (g.W.Write.contents l.out) l.reporting;
  room : 0 < vec_len l.buffer;
}
