use Rattle.std.proofs.Common.{◌≡◌, min, cond, [], vec_items, sym, ap, ◌∙◌}
use Rattle.std.proofs.lemmas.Iterator.{items_from_collect}
use Rattle.std.proofs.lemmas.Result.{IfOk-weaker}
use Rattle.std.proofs.lemmas.Bool.{le-ltb}
use Rattle.rows.specs.Lines.{lines_in}
use Rattle.rows.specs.Tables.{rows_seen}
use Rattle.rows.proofs.Running.{rows_list}
use Rattle.store.specs.declared.header.Header.{Header}
use Rattle.store.specs.Contents.{header_in}
use Rattle.store.specs.Layout.{lines_room}
use Rattle.store.specs.Parts.{parts}
use Rattle.store.proofs.Views.{seen_at}
use Rattle.owned.proofs.lines_of.Goals as goal

pub returns : goal.returns
returns c =
    let xs = c.args.row.now in
    let n = c.min.result in
    let part = (parts xs).lines in
    let count = c.min.ensures ∙ ap (λ (h : Header). min h.lines lines_room) c.read-header.ensures in
    let seen = seen_at c.new-lines.result n part c.new-lines.ensures.cells c.new-lines.ensures.len in
    IfOk-weaker c.collect.result (λ v. vec_items v ≡ rows_seen c.new-lines.result) _
    (λ v e. e ∙ seen ∙ ap (λ k. lines_in k part) count ∙ sym (ap (λ b. cond b [] (lines_in (min (header_in xs).lines lines_room) part)) (le-ltb _ _ c.if-row-lt-STORE_SIZE.false)))
    (items_from_collect c.collect.result c.collect.ensures.ran (rows_list _ c.iter.ensures.rest))
