use Rattle.std.proofs.Common.{◌≡◌, List, ◌++◌, refl, ap, ◌∙◌, subst, arith}
use Rattle.visit.specs.declared.Clock.{Clock}
use Rattle.visit.specs.declared.Reading.{Reading}
use Rattle.visit.specs.declared.Visit.{Visit}
use Rattle.visit.specs.Visits.{single}
use Rattle.model.specs.Store.{merge_in}
use Rattle.rows.specs.Tables.{rows_of}
use Rattle.rows.proofs.Becoming.{becomes_as}
use Rattle.live.specs.declared.merging.Placed.{Placed}
use Rattle.live.specs.Walk.{left_over, placed_of, taken_in}
use Rattle.changes.specs.Changed.{compared, merging}
use Rattle.changes.specs.Out.{OutAfter}
use Rattle.changes.proofs.Merging.{by_comparing}
use Rattle.live.proofs.Placing.{merged, others_few, place_fits, room_stays, same_len}
use Rattle.store.proofs.Views.{seen_at}
use Rattle.store.proofs.steps.merge_comparing.Goals as goal

-- What is found by comparing is what merging the reading's visit changes.
found : (k : Clock) (e : Reading) {v : Visit} {p : Placed} (vs : List Visit) {rows : List Visit} → v ≡ single e → p ≡ placed_of k.terms v vs → rows ≡ left_over k.terms v vs ++ taken_in k.terms v vs
    → compared k.terms k.watermark p rows ≡ merging k.terms k.watermark (single e) vs
found k e {v} {p} vs {rows} one place aside = by_comparing k.terms k.watermark v vs p rows place aside ∙ ap (λ (u : Visit). merging k.terms k.watermark u vs) one

pub by_reading-changed-requires : goal.by_reading-changed-requires
by_reading-changed-requires c =
    let is = c.set_aside-placed.ensures.placed in
    let aside = c.set_aside-placed.ensures.after in
    record { place = omega (arith, others_few c.args.clock.terms c.single.result is aside, c.rows.ensures.len); room = omega (arith, same_len c.args.clock.terms c.single.result is aside, c.rows.ensures.len, c.requires.out) }

pub place-requires : goal.place-requires
place-requires c =
    let is = c.set_aside-placed.ensures.placed in
    let aside = c.set_aside-placed.ensures.after in
    record { place = place_fits c.args.clock.terms c.single.result is aside; few = others_few c.args.clock.terms c.single.result is aside; room = room_stays c.args.clock.terms c.single.result is aside c.requires.room }

pub returns-clause-visits : goal.returns-clause-visits
returns-clause-visits c =
    let k = c.args.clock in
    becomes_as (merged k.terms c.single.result c.set_aside-placed.ensures.placed c.set_aside-placed.ensures.after c.place.new.table c.place.ensures.after) refl
    (ap (λ (u : Visit). merge_in k.terms u (rows_of c.args.visits.now)) c.single.ensures)

pub returns-clause-out : goal.returns-clause-out
returns-clause-out c =
    let vs = rows_of c.args.visits.now in
    let mid = c.set_aside-placed.new.table in
    let seen = seen_at c.rows.result mid.len mid.cells.now c.rows.ensures.cells c.rows.ensures.len in
    subst (λ o. OutAfter o c.by_reading-changed.result c.args.out.now c.by_reading-changed.new.out)
    (found c.args.clock c.args.reading vs c.single.ensures c.set_aside-placed.ensures.placed (seen ∙ c.set_aside-placed.ensures.after.rows)) c.by_reading-changed.ensures
