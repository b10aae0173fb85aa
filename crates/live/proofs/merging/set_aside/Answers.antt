use Rattle.std.proofs.Common.{length, sym, refl, ap, ◌∙◌, arith}
use Rattle.std.specs.List.{insert}
use Rattle.rows.specs.Tables.{rows_of}
use Rattle.rows.proofs.Becoming.{becomes_as, becomes_itself, becomes_long, becomes_then, len_inserted, len_removed, length_of}
use Rattle.live.proofs.Aside.{share_taken, walked_next, walked_none, walked_past, walked_placed, walked_rows, walked_stop, walked_taken}
use Rattle.live.proofs.merging.set_aside.Goals as goal

pub loop-at-init : goal.loop-at-init
loop-at-init c =
    let t = c.args.table.now in
    record { len = refl; within = omega arith; after = becomes_itself t; walked = walked_none t.len (length_of t) c.requires.fits.count c.requires.fits.sum }

pub merge-grown-requires : goal.merge-grown-requires
merge-grown-requires c =
    let row = c.row-row.result in
    let so = c.loop-at.invariant.walked in
    let next = walked_next so row c.loop-at-test.true (c.row-row.ensures row) in
    record { count = omega (arith, so.count, share_taken so row next (λ v. v.count)); sum = omega (arith, so.sum, share_taken so row next (λ v. v.sum)) }

pub insert-requires-clause-room : goal.insert-requires-clause-room
insert-requires-clause-room c =
    let t = c.loop-at.table in
    let gone = c.remove.ensures.after in
    let fewer = len_removed c.loop-at.at (omega arith) gone in
    omega (arith, t.fits, fewer, becomes_long gone (omega (arith, fewer)) t.fits)

pub loop-at-preserved-in-Take : goal.loop-at-preserved-in-Take
loop-at-preserved-in-Take c =
    let was = c.args.table.now in
    let t = c.loop-at.table in
    let gone = c.remove.new.self in
    let put = c.insert.new.self in
    let row = c.row-row.result in
    let here = c.loop-at-test.true in
    let so = c.loop-at.invariant.walked in
    let len = c.loop-at.invariant.len in
    let within = c.loop-at.invariant.within in
    let removed = c.remove.ensures.after in
    let inserted = c.insert.ensures.after in
    let fewer = len_removed c.loop-at.at (omega arith) removed in
    let again = len_inserted gone.len row (omega arith) inserted in
    let next = walked_next so row here (c.row-row.ensures row) in
    let first = becomes_then c.loop-at.invariant.after {n = was.len} removed (omega arith) (omega arith) (omega arith) (omega arith) in
    let both = becomes_then first {n = was.len} inserted (omega arith) (omega arith) (omega arith) (omega arith) in
    record {
      len = omega arith;
      within = omega arith;
      after = becomes_as both refl (sym inserted.rows);
      walked = rw c.merge-grown.ensures
          (walked_taken so row next c.in-Take.ensures gone.len (rows_of put) (sym (length_of gone) ∙ ap length removed.rows)
          (inserted.rows ∙ ap (λ l. insert l gone.len row) removed.rows));
    }

pub loop-at-preserved : goal.loop-at-preserved
loop-at-preserved c =
    let row = c.row-row.result in
    let so = c.loop-at.invariant in
    let next = walked_next so.walked row c.loop-at-test.true (c.row-row.ensures row) in
    record { len = so.len; within = so.within; after = so.after; walked = walked_past so.walked row next c.in-Pass.ensures }

pub returns-in-Stop : goal.returns-in-Stop
returns-in-Stop c =
    let row = c.row-row.result in
    let so = c.loop-at.invariant in
    let next = walked_next so.walked row c.loop-at-test.true (c.row-row.ensures row) in
    let end = walked_stop so.walked row next c.in-Stop.ensures in
    record { placed = walked_placed so.walked end; after = becomes_as so.after refl (walked_rows so.walked end) }
