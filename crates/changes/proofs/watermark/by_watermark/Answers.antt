use Rattle.std.proofs.Common.{◌-◌, [], length, filter, sym, refl, ap, ◌∙◌, zero-add, arith}
use borrow.Rule.Slice.PartMut.{put_mid}
use Rattle.rows.specs.Tables.{rows_seen}
use Rattle.rows.specs.Out.{out_head}
use Rattle.changes.specs.Changed.{newly_closed}
use Rattle.changes.specs.Out.{outcome_count, outcome_row, overlay}
use Rattle.changes.proofs.Differences.{only_newly_closed}
use Rattle.changes.proofs.Written.{counted, standing_lent}
use Rattle.changes.proofs.watermark.by_watermark.Goals as goal

pub returns : goal.returns
returns c =
    let xs = c.args.out.now in
    let vs = rows_seen c.args.rows in
    let new = filter (newly_closed c.args.clock.terms c.args.clock.watermark c.args.to) vs in
    let law = sym (only_newly_closed c.args.clock.terms c.args.clock.watermark c.args.to vs c.requires.order) in
    let put = c.put_closing-added in
    let standing = standing_lent new xs put.new.target put.result (omega arith) put.ensures in
    record {
      many = put.ensures.many ∙ sym (zero-add (length new)) ∙ ap outcome_count law;
      out = counted [] new xs (put_mid out_head (length xs - out_head) xs put.new.target) c.put_counts.new.out 0 put.result standing refl put.ensures.many c.put_counts.ensures
          ∙ ap (λ o. overlay (outcome_row o) xs) law;
    }
