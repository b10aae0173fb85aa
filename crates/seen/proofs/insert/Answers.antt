use Rattle.std.proofs.Common.{◌≡◌, Bool, ◌∷◌, refl, sym, ap, ◌∙◌}
use Rattle.std.specs.List.{insert, prefix_len}
use Rattle.visit.specs.declared.Reading.{Reading}
use Rattle.visit.specs.Readings.{reading_before}
use Rattle.model.specs.Sessions.{insert_reading}
use Rattle.rows.specs.Tables.{rows_of, rows_seen}
use Rattle.rows.proofs.Becoming.{becomes_as}
use Rattle.model.proofs.Places.{at_place_is}
use Rattle.seen.proofs.insert.Goals as goal

pub returns : goal.returns
returns c =
    let e = c.args.reading in
    let rs = rows_of c.args.table.now in
    let before : Reading → Bool = λ x. reading_before c.args.terms x e in
    let seen : rows_seen c.rows.result ≡ rs = cc in
    let placed : insert rs c.place-at.result e ≡ insert_reading c.args.terms e rs =
    ap (λ k. insert rs k e) (c.place-at.ensures.before ∙ ap (prefix_len before) seen) ∙ sym (at_place_is before (λ es. e ∷ es) rs) in
    record { after = becomes_as c.insert.ensures.after refl placed }
