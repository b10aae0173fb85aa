use Rattle.std.proofs.Common.{◌-◌, ap, ◌∙◌}
use Rattle.std.specs.Bool.{then_some}
use Rattle.report.proofs.Sources.{streamed}
use Rattle.report.proofs.streams.stream_commands.Goals as goal

pub returns : goal.returns
returns g c =
    let u = c.in_ok-unread.unread in
    streamed g.S.Sessions.prints c.args.sessions c.new-reporting.result c.report_all.new.reporting (g.R.Read.remaining c.args.source.now) _ _ _ _ c.in_ok-count.count u c.then_some.result
    c.new-reporting.ensures.text c.new-reporting.ensures.rest c.in_ok-count.ensures.advances c.in_ok-count.ensures.end c.in_ok-unread.ensures.0 c.in_ok-unread.ensures.1
    (c.then_some.ensures ∙ ap (then_some _) (c.saturating_sub-at.ensures ∙ ap (λ k. k - u) c.saturating_add.ensures))
