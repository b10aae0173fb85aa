use Rattle.std.proofs.Common.{◌≡◌, ◌-◌, ◌<◌, ◌∷◌, get_or, drop, sym, ap, ◌∙◌, arith}
use Rattle.std.proofs.lemmas.List.{take_rest}
use Rattle.rows.specs.Rows.{rows_in}
use Rattle.rows.proofs.Splits.{rows_first}
use Rattle.rows.proofs.table.Rows.split_first.Goals as goal

pub returns : goal.returns
returns g c =
    let r = g.R.Row in
    let n = c.args.self.now.len in
    let xs = c.args.self.now.cells.now in
    let some : 0 < n = omega arith in
    let first = rows_first r.WIDTH r.made n xs some in
    let row = c.row.ensures c.row.result ∙ ap (λ l. get_or l 0 c.row.result) first in
    let behind : c.new-rest.result.cells.now ≡ drop r.WIDTH xs = c.new-rest.ensures.cells ∙ take_rest xs c.WIDTH.result ∙ ap (λ u. drop u xs) c.WIDTH.ensures in
    first ∙ ap (λ x. x ∷ rows_in r.WIDTH r.made (n - 1) (drop r.WIDTH xs)) (sym row)
    ∙ ap (λ l. c.row.result ∷ rows_in r.WIDTH r.made (n - 1) l) (sym behind)
    ∙ ap (λ k. c.row.result ∷ rows_in r.WIDTH r.made k c.new-rest.result.cells.now) (sym c.new-rest.ensures.len)
