use Rattle.std.proofs.Common.{◌≡◌, ◌-◌, ◌*◌, ◌≤◌, length, take, drop, sym, ap, ◌∙◌, arith}
use Rattle.rows.specs.Rows.{rows_in}
use Rattle.rows.proofs.Products.{rows_rise}
use Rattle.rows.proofs.Splits.{drop_rows, rows_taken, take_rows}
use Rattle.rows.proofs.table.Rows.split_at.Goals as goal

pub returns-clause-front : goal.returns-clause-front
returns-clause-front g c =
    let r = g.R.Row in
    let t = c.args.self.now in
    let k = c.args.at in
    let cells : c.new.result.cells.now ≡ take (k * r.WIDTH) t.cells.now = c.new.ensures.cells ∙ c.split_at.ensures.front ∙ ap (λ u. take (k * u) t.cells.now) c.WIDTH.ensures in
    let same : k * r.WIDTH ≤ k * r.WIDTH = omega arith in
    let within : k * r.WIDTH ≤ length t.cells.now = omega (arith, rows_rise r.WIDTH k t.len c.requires, t.fits) in
    ap (λ n. rows_in r.WIDTH r.made n c.new.result.cells.now) c.new.ensures.len ∙ ap (rows_in r.WIDTH r.made k) cells
    ∙ rows_taken r.laws k (k * r.WIDTH) t.cells.now same within ∙ sym (take_rows r.WIDTH r.made k t.len t.cells.now c.requires)

pub returns-clause-rest : goal.returns-clause-rest
returns-clause-rest g c =
    let r = g.R.Row in
    let t = c.args.self.now in
    let k = c.args.at in
    let cells : c.new-2.result.cells.now ≡ drop (k * r.WIDTH) t.cells.now = c.new-2.ensures.cells ∙ c.split_at.ensures.back ∙ ap (λ u. drop (k * u) t.cells.now) c.WIDTH.ensures in
    ap (λ n. rows_in r.WIDTH r.made n c.new-2.result.cells.now) c.new-2.ensures.len ∙ ap (rows_in r.WIDTH r.made (t.len - k)) cells
    ∙ sym (drop_rows r.WIDTH r.made k t.len t.cells.now c.requires)
