use Rattle.std.proofs.Common.{◌≡◌, ◌+◌, ◌<◌, length, arith}
use Rattle.std.specs.List.{insert}
use Rattle.std.proofs.lemmas.List.Edits.{length-insert}
use Rattle.rows.specs.Tables.{rows_of}
use Rattle.rows.proofs.Becoming.{becomes_held, length_of, len_put, put_stored}
use Rattle.rows.proofs.Replaced.{held_inserted}
use Rattle.rows.proofs.table.Table.insert.Goals as goal

pub returns : goal.returns
returns g c =
    let r = g.R.Row in
    let t = c.args.self.now in
    let at = c.args.at in
    let row = c.args.row in
    let is = c.put.new.self in
    let here : at < t.len + 1 = omega (arith, c.requires.place) in
    let long = length-insert (rows_of t) at row (omega (arith, c.requires.place, length_of t)) in
    let many : is.len ≡ length (insert (rows_of t) at row) = omega (arith, len_put at row c.put.ensures.after, long, length_of t) in
    let held = held_inserted r.laws t.len at t.cells.now c.shift.new.table is.cells.now row c.requires.place c.requires.room c.shift.ensures (put_stored at row here c.put.ensures.after) in
    record { after = becomes_held c.put.ensures.after.same many held }
