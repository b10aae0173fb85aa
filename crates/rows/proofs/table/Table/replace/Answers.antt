use Rattle.std.proofs.Common.{◌≡◌, ◌+◌, ◌-◌, ◌++◌, length, take, drop, refl, arith}
use Rattle.std.proofs.lemmas.List.{length-append, length-drop, length-take-le}
use Rattle.rows.specs.Rows.{rows_in}
use Rattle.rows.proofs.Becoming.{becomes_held}
use Rattle.rows.proofs.Products.{rows_many, rows_rise}
use Rattle.rows.proofs.Replaced.{held_replaced}
use Rattle.rows.proofs.Splits.{length_rows}
use Rattle.rows.proofs.table.Table.replace.Goals as goal

pub overflow_add-self : goal.overflow_add-self
overflow_add-self g c =
    let most = c.args.self.now.len + (length c.args.rows.now - c.args.gone) in
    omega (arith, c.requires.room, rows_many g.R.Row.WIDTH most g.R.Row.laws.some)

pub invariant_of-self-2 : goal.invariant_of-self-2
invariant_of-self-2 g c =
    let k = length c.args.rows.now in
    let fewer = rows_rise g.R.Row.WIDTH (c.args.self.now.len - c.args.gone + k) (c.args.self.now.len + (k - c.args.gone)) (omega arith) in
    record { fits = omega (arith, c.requires.room) }

pub returns : goal.returns
returns g c =
    let r = g.R.Row in
    let n = c.args.self.now.len in
    let xs = c.args.self.now.cells.now in
    let rs = c.args.rows.now in
    let k = length rs in
    let at = c.args.at in
    let gone = c.args.gone in
    let old = rows_in r.WIDTH r.made n xs in
    let held = held_replaced r.laws n at xs c.shift.new.table c.put_all.new.table gone rs c.requires.place c.requires.room c.shift.ensures c.put_all.ensures in
    let front : length (take at old) ≡ at = length-take-le at old (rw (length_rows r.WIDTH r.made n xs) (omega arith)) in
    let many : n - gone + k ≡ length (take at old ++ (rs ++ drop (at + gone) old)) =
    simp (length-append, length-drop) (omega (arith, front, length_rows r.WIDTH r.made n xs)) in
    record { after = becomes_held refl many held }
