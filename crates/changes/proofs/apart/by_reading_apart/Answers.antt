use Rattle.std.proofs.Common.{rules, arith, ap, ◌∙◌}
use Rattle.std.specs.Bool.{then_some}
use Rattle.visit.specs.Visits.{closed}
use Rattle.model.specs.Sessions.{closed_visits}
use Rattle.changes.proofs.Written.{reading_written}
use Rattle.changes.proofs.apart.by_reading_apart.Goals as goal

pub returns : goal.returns
returns c =
    let t = c.args.clock.terms in
    let m = c.args.clock.watermark in
    let z = c.args.made in
    let put = c.put_rows-retracted in
    record {
      many = search rules;
      out = reading_written (closed_visits t m c.args.near.now) z (closed t m z) c.then_some-added.result c.args.out.now put.new.target c.put_added.new.out put.result
          (omega arith) (search rules) (c.then_some-added.ensures ∙ ap (λ b. then_some b z) c.closed.ensures) c.put_added.ensures.out;
    }
