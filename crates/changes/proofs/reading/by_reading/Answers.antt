use Rattle.std.proofs.Common.{rules, ap, ◌∙◌, arith}
use Rattle.std.specs.Bool.{then_some}
use Rattle.rows.specs.Tables.{rows_seen}
use Rattle.changes.specs.Changed.{closed_besides, retracted_rows}
use Rattle.changes.proofs.Written.{reading_written}
use Rattle.changes.proofs.reading.by_reading.Goals as goal

pub returns : goal.returns
returns c =
    let rows = rows_seen c.args.rows in
    let t = c.args.clock.terms in
    let m = c.args.clock.watermark in
    let z = c.args.placed.visit in
    let put = c.put_retracted-retracted in
    record {
      many = search rules;
      out = reading_written (retracted_rows t m c.args.placed rows) z (closed_besides t m rows z) c.then_some-added.result c.args.out.now put.new.target c.put_added.new.out put.result
          (omega arith) put.ensures.put (c.then_some-added.ensures ∙ ap (λ b. then_some b z) c.closed_besides.ensures) c.put_added.ensures.out;
    }
