use Rattle.std.proofs.Common.{◌≡◌, ◌+◌, ◌*◌, None, Some, drop, length, sym, ap, ◌∙◌, arith}
use Rattle.std.specs.Option.{option_map}
use Rattle.rows.specs.Limits.{first_over}
use Rattle.rows.proofs.Overs.{or_else, over_from, over_row, over_step, over_within_limits}
use Rattle.rows.proofs.Products.{row_ends}
use Rattle.rows.proofs.table.Rows.first_over.Goals as goal

pub overflow_add-result : goal.overflow_add-result
overflow_add-result g c =
    let r = g.R.Row in
    let ends = row_ends r.WIDTH c.loop-i.i c.args.self.now.len c.loop-i-test.true in
    let within = over_within_limits 0 c.limits.result.now _ c.in-Some.cell (sym c.in-Some.ensures) in
    let many = ap length c.limits.ensures ∙ r.limited in
    rw c.WIDTH-w.ensures (omega arith)

pub returns-in-Some : goal.returns-in-Some
returns-in-Some g c =
    let r = g.R.Row in
    let xs = c.args.self.now.cells.now in
    let i = c.loop-i.i in
    let row = over_row c.WIDTH-w.result r.WIDTH i c.limits.result.now r.limits xs c.WIDTH-w.ensures c.limits.ensures r.limited in
    let found : Some c.in-Some.cell ≡ first_over 0 r.limits (drop (i * r.WIDTH) xs) = c.in-Some.ensures ∙ row in
    ap (λ u. Some (i * u + c.in-Some.cell)) c.WIDTH-w.ensures
    ∙ ap (λ o. or_else (option_map (λ k. i * r.WIDTH + k) o) (over_from r.WIDTH r.limits c.args.self.now.len (i + 1) xs)) found
    ∙ sym (over_step r.WIDTH r.limits c.args.self.now.len i xs r.limited c.loop-i-test.true c.args.self.now.fits)
    ∙ c.loop-i.invariant

pub loop-i-preserved : goal.loop-i-preserved
loop-i-preserved g c =
    let r = g.R.Row in
    let xs = c.args.self.now.cells.now in
    let i = c.loop-i.i in
    let row = over_row c.WIDTH-w.result r.WIDTH i c.limits.result.now r.limits xs c.WIDTH-w.ensures c.limits.ensures r.limited in
    let none : None ≡ first_over 0 r.limits (drop (i * r.WIDTH) xs) = c.in_default.ensures ∙ row in
    ap (λ o. or_else (option_map (λ k. i * r.WIDTH + k) o) (over_from r.WIDTH r.limits c.args.self.now.len (i + 1) xs)) none
    ∙ sym (over_step r.WIDTH r.limits c.args.self.now.len i xs r.limited c.loop-i-test.true c.args.self.now.fits)
    ∙ c.loop-i.invariant
