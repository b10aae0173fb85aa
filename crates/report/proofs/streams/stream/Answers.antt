use Rattle.report.proofs.Sources.{streamed_by}
use Rattle.report.proofs.streams.stream.Goals as goal

pub returns : goal.returns
returns g c =
    streamed_by _ g.S.Sessions.prints (g.R.Read.remaining c.args.source.now) (g.R.Read.remaining c.read_front.new.source) _ _ c.in_ok-terms.terms c.in_ok-start.field-0 c.stream_commands.result
    c.in_ok-terms.ensures c.in_ok-start.ensures c.stream_commands.ensures
