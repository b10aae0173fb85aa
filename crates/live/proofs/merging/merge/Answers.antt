use Rattle.std.proofs.Common.{◌≡◌, ◌<◌, ◌≤◌, length, sym, refl, arith}
use Rattle.std.specs.List.{insert}
use Rattle.model.specs.Store.{merge_in}
use Rattle.rows.specs.Tables.{rows_of}
use Rattle.rows.proofs.Becoming.{becomes_as, becomes_itself, becomes_long, becomes_then, len_inserted, len_removed, length_of}
use Rattle.live.proofs.Walking.{merging_end, merging_none, merging_past, merging_stop, merging_taken, share_gone}
use Rattle.live.proofs.merging.merge.Goals as goal
use Rattle.live.proofs.merging.merge.Goals.{else-loop-at-test, then-loop-at-test+in-Stop}

pub loop-at-init : goal.loop-at-init
loop-at-init c =
    let t = c.args.table.now in
    record { few = omega arith; after = becomes_itself t; merging = merging_none c.args.terms c.args.visit (rows_of t) c.requires.fits.count c.requires.fits.sum }

pub merge-whole-requires : goal.merge-whole-requires
merge-whole-requires c =
    let row = c.row-row.result in
    let so = c.loop-at.invariant.merging in
    let here : c.loop-at.at < length (rows_of c.loop-at.table) = omega (arith, length_of c.loop-at.table, c.loop-at-test.true) in
    let share = share_gone so row here (c.row-row.ensures row) in
    record { count = omega (arith, so.count, share (λ v. v.count)); sum = omega (arith, so.sum, share (λ v. v.sum)) }

pub loop-at-smaller-in-Take : goal.loop-at-smaller-in-Take
loop-at-smaller-in-Take c = omega (arith, len_removed c.loop-at.at c.loop-at-test.true c.remove.ensures.after)

pub loop-at-preserved-in-Take : goal.loop-at-preserved-in-Take
loop-at-preserved-in-Take c =
    let was = c.args.table.now in
    let t = c.loop-at.table in
    let row = c.row-row.result in
    let so = c.loop-at.invariant in
    let here : c.loop-at.at < length (rows_of t) = omega (arith, length_of t, c.loop-at-test.true) in
    let removed = c.remove.ensures.after in
    let fewer = len_removed c.loop-at.at c.loop-at-test.true removed in
    let both = becomes_then so.after {n = was.len} removed so.few (omega arith) (omega (arith, fewer)) (omega (arith, so.few)) in
    record {
      few = omega (arith, so.few, fewer);
      after = becomes_as both refl (sym removed.rows);
      merging = rw (c.merge-whole.ensures, removed.rows) (merging_taken so.merging row here (c.row-row.ensures row) c.in-Take.ensures);
    }

pub loop-at-preserved : goal.loop-at-preserved
loop-at-preserved c =
    let t = c.loop-at.table in
    let row = c.row-row.result in
    let so = c.loop-at.invariant in
    let here : c.loop-at.at < length (rows_of t) = omega (arith, length_of t, c.loop-at-test.true) in
    record { few = so.few; after = so.after; merging = merging_past so.merging row here (c.row-row.ensures row) c.in-Pass.ensures }

pub insert-requires-clause-place : goal.insert-requires-clause-place
insert-requires-clause-place c = omega (arith, length_of c.loop-at.table, c.loop-at.invariant.merging.place)

pub insert-requires-clause-room : goal.insert-requires-clause-room
insert-requires-clause-room c =
    let so = c.loop-at.invariant in
    omega (arith, so.few, c.requires.room, becomes_long so.after so.few c.args.table.now.fits)

pub returns : goal.returns
returns c =
    let was = c.args.table.now in
    let t = c.loop-at.table in
    let v = c.loop-at.whole in
    let so = c.loop-at.invariant in
    let put = c.insert.ensures.after in
    let place : c.loop-at.at ≤ t.len = omega (arith, length_of t, so.merging.place) in
    let whole : insert (rows_of t) c.loop-at.at v ≡ merge_in c.args.terms c.args.visit (rows_of was) =
    elim c.loop-at-test.branch [
      | else-loop-at-test w ↦ merging_end so.merging (omega (arith, length_of t, w.loop-at-test.false))
      | then-loop-at-test+in-Stop w ↦
          merging_stop so.merging w.row-row.result (omega (arith, length_of t, w.loop-at-test.true)) (w.row-row.ensures w.row-row.result) w.in-Stop.ensures
    ] in
    let more = len_inserted c.loop-at.at v place put in
    record { after = becomes_then so.after (becomes_as put refl whole) so.few (omega arith) (omega (arith, more)) (omega (arith, so.few, more)) }
