use Rattle.std.proofs.Common.{◌≡◌, ◌*◌, ◌<◌, ◌≤◌, length, get_or, sym, ap, ◌∙◌, arith}
use Rattle.rows.specs.Cells.{cleared}
use Rattle.rows.specs.Rows.{rows_in}
use Rattle.rows.proofs.Becoming.{len_put, put_stored}
use Rattle.rows.proofs.Filtering.{filtered_here, filtered_no, filtered_yes, kept_held, kept_rows}
use Rattle.rows.proofs.table.Table.retain.Goals as goal
use Rattle.rows.proofs.table.Table.retain.Goals.{then-test, else-test, then-to-i, else-to-i}

pub loop-i-preserved : goal.loop-i-preserved
loop-i-preserved g c =
    let r = g.R.Row in
    let n = c.args.self.now.len in
    let xs = c.args.self.now.cells.now in
    let ys = c.loop-i.self.cells.now in
    let k = c.loop-i.to in
    let i = c.loop-i.i in
    let row = c.row-row.result in
    let here : i < n = omega arith in
    let read : row ≡ get_or (rows_in r.WIDTH r.made n ys) i row =
    c.row-row.ensures row ∙ ap (λ m. get_or (rows_in r.WIDTH r.made m ys) i row) c.loop-i.invariant.many in
    let fits : n * r.WIDTH ≤ length ys = rw (sym c.loop-i.invariant.many) c.loop-i.self.fits in
    elim c.if-test.branch [
      | then-test w ↦ elim w.if-to-i.branch [
        | then-to-i v ↦ rw (w.self-is, w.to-is, v.self-is) record {
          same = v.put.ensures.after.same ∙ c.loop-i.invariant.same;
          many = len_put k row v.put.ensures.after ∙ c.loop-i.invariant.many;
          behind = omega arith;
          passing = λ p answers. filtered_yes r.laws p n xs ys k i (c.loop-i.invariant.passing p answers) row here read
              v.put.new.self.cells.now (sym w.if-test.true ∙ answers row c.test.result c.test.ensures) fits (put_stored k row (omega arith) v.put.ensures.after);
        }
        | else-to-i v ↦ rw (w.self-is, w.to-is, v.self-is) record {
          same = c.loop-i.invariant.same;
          many = c.loop-i.invariant.many;
          behind = omega arith;
          passing = λ p answers. filtered_here r.laws p n xs ys k i (c.loop-i.invariant.passing p answers) row here read
              (sym w.if-test.true ∙ answers row c.test.result c.test.ensures) (omega arith);
        }
      ]
      | else-test w ↦ rw (w.self-is, w.to-is) record {
        same = c.loop-i.invariant.same;
        many = c.loop-i.invariant.many;
        behind = omega arith;
        passing = λ p answers. filtered_no r.laws p n xs ys k i (c.loop-i.invariant.passing p answers) row here read
            (sym w.if-test.false ∙ answers row c.test.result c.test.ensures);
      }
    ]

pub returns-clause-after : goal.returns-clause-after
returns-clause-after g c =
    let r = g.R.Row in
    let n = c.args.self.now.len in
    let xs = c.args.self.now.cells.now in
    let ys = c.loop-i.self.cells.now in
    let zs = c.clear.new.table in
    let k = c.loop-i.to in
    let i = c.loop-i.i in
    let fits : n * r.WIDTH ≤ length ys = rw (sym c.loop-i.invariant.many) c.loop-i.self.fits in
    let clears = c.clear.ensures ∙ ap (λ u. cleared (k * u) (c.loop-i.self.len * u) ys) c.WIDTH-w.ensures ∙ ap (λ m. cleared (k * r.WIDTH) (m * r.WIDTH) ys) c.loop-i.invariant.many in
    λ p answers.
    let so = c.loop-i.invariant.passing p answers in
    record {
      same = c.loop-i.invariant.same;
      rows = kept_rows r.laws p n xs ys k i so zs (omega arith) fits clears;
      held = kept_held r.laws p n xs ys k i so zs (omega arith) fits clears (omega arith);
    }
