use Rattle.std.proofs.Common.{◌≡◌, max, length, refl, ap, ◌∙◌, subst, arith}
use Rattle.visit.specs.declared.Clock.{Clock}
use Rattle.visit.specs.Readings.{kept}
use Rattle.visit.specs.Visits.{live}
use Rattle.model.specs.Store.{Draft, finish, kept_only, live_only, posted}
use Rattle.model.proofs.Common.{kept_shorter}
use Rattle.changes.specs.Out.{OutAfter, outcome_row, overlay}
use Rattle.rows.specs.Out.{new_count}
use Rattle.rows.specs.Tables.{rows_of, rows_seen}
use Rattle.rows.proofs.Becoming.{becomes_as, becomes_len}
use Rattle.store.specs.Contents.{store_of}
use Rattle.store.specs.Order.{Orderly}
use Rattle.store.specs.Parts.{parts_from}
use Rattle.store.specs.Steps.{before, changes_of, draft_of, gone_of, new_of}
use Rattle.store.proofs.Ending.{clock_after, filtered, gone_read, held_in, new_read, parts_are, row_within, stands}
use Rattle.rows.proofs.Halves.{allows_kept}
use Rattle.store.proofs.Views.{rows_at}
use Rattle.store.proofs.applying.perform.Goals as goal

pub draft-drafted-requires-clause-order : goal.draft-drafted-requires-clause-order
draft-drafted-requires-clause-order c =
    let q = c.args.ready in
    let k = q.header.clock in
    let p = parts_from c.args.head.now c.args.visits.now c.args.readings.now c.args.lines.now in
    let is = stands k c.new-visits.result c.new-readings.result q.header.visits q.header.readings p.visits p.readings c.new-visits.ensures.cells c.new-visits.ensures.len c.new-readings.ensures.cells c.new-readings.ensures.len in
    rw is (allows_kept c.args.search (λ (o : Orderly k.terms (store_of q.header p)). o.current) c.requires.order)

pub read-changed-requires-clause-within : goal.read-changed-requires-clause-within
read-changed-requires-clause-within c =
    let q = c.args.ready in
    let k = q.header.clock in
    let p = parts_from c.args.head.now c.args.visits.now c.args.readings.now c.args.lines.now in
    let b = before (store_of q.header p) in
    let is = stands k c.new-visits.result c.new-readings.result q.header.visits q.header.readings p.visits p.readings c.new-visits.ensures.cells c.new-visits.ensures.len c.new-readings.ensures.cells c.new-readings.ensures.len in
    let written = c.draft-drafted.ensures.out.out ∙ ap (λ (x : Draft). overlay (outcome_row (changes_of k.terms x q.command)) c.args.out.now) is in
    row_within (gone_of k.terms b q.command) (new_of k.terms b q.command) c.args.out.now c.draft-drafted.new.out written

pub finish-requires-clause-order : goal.finish-requires-clause-order
finish-requires-clause-order c =
    let q = c.args.ready in
    let k = q.header.clock in
    let p = parts_from c.args.head.now c.args.visits.now c.args.readings.now c.args.lines.now in
    let b = before (store_of q.header p) in
    let clock = c.draft-drafted.ensures.clock ∙ clock_after k b q.command refl in
    rw (clock, rows_at c.new-lines.result q.header.lines p.lines c.new-lines.ensures.cells c.new-lines.ensures.len)
    (allows_kept c.args.search (λ (o : Orderly k.terms (store_of q.header p)). o.lines) c.requires.order)

pub finish-requires-clause-fits : goal.finish-requires-clause-fits
finish-requires-clause-fits c =
    let q = c.args.ready in
    let k = q.header.clock in
    let p = parts_from c.args.head.now c.args.visits.now c.args.readings.now c.args.lines.now in
    let b = before (store_of q.header p) in
    let is = stands k c.new-visits.result c.new-readings.result q.header.visits q.header.readings p.visits p.readings c.new-visits.ensures.cells c.new-visits.ensures.len c.new-readings.ensures.cells c.new-readings.ensures.len in
    let written = c.draft-drafted.ensures.out.out ∙ ap (λ (x : Draft). overlay (outcome_row (changes_of k.terms x q.command)) c.args.out.now) is in
    let row = c.draft-drafted.new.out in
    let new = new_of k.terms b q.command in
    let changed = c.read-changed.result in
    let added : rows_seen changed.added ≡ new = c.read-changed.ensures.added ∙ new_read (gone_of k.terms b q.command) new c.args.out.now row written in
    let many : changed.added.len ≡ length new = c.read-changed.ensures.added_len ∙ ap new_count written in
    rw (added, many, rows_at c.new-lines.result q.header.lines p.lines c.new-lines.ensures.cells c.new-lines.ensures.len) c.requires.performable.fits

pub returns : goal.returns
returns c =
    let q = c.args.ready in
    let h = q.header in
    let k = h.clock in
    let t = k.terms in
    let p = parts_from c.args.head.now c.args.visits.now c.args.readings.now c.args.lines.now in
    let b = before (store_of h p) in
    let d = draft_of t b q.command in
    let end = finish t (store_of h p) d in
    let gone = gone_of t b q.command in
    let new = new_of t b q.command in
    let row = c.draft-drafted.new.out in
    let is = stands k c.new-visits.result c.new-readings.result h.visits h.readings p.visits p.readings c.new-visits.ensures.cells c.new-visits.ensures.len c.new-readings.ensures.cells c.new-readings.ensures.len in
    let after = subst (λ (x : Draft). OutAfter (changes_of t x q.command) c.draft-drafted.result.changed c.args.out.now row) is c.draft-drafted.ensures.out in
    let written = after.out in
    let clock = c.draft-drafted.ensures.clock ∙ clock_after k b q.command refl in
    let visits = filtered (live_only t d.watermark) d.live (kept_shorter (live t d.watermark))
    (becomes_as c.draft-drafted.ensures.visits refl (ap (λ (x : Draft). (draft_of t x q.command).live) is))
    (becomes_as c.finish.ensures.visits refl (ap (λ (x : Clock). live_only x.terms x.watermark (rows_of c.draft-drafted.new.visits)) clock)) in
    let readings = filtered (kept_only t d.watermark) d.seen (kept_shorter (kept t d.watermark))
    (becomes_as c.draft-drafted.ensures.readings refl (ap (λ (x : Draft). (draft_of t x q.command).seen) is))
    (becomes_as c.finish.ensures.readings refl (ap (λ (x : Clock). kept_only x.terms x.watermark (rows_of c.draft-drafted.new.readings)) clock)) in
    let changed = c.read-changed.result in
    let ledger : posted c.draft-drafted.result.clock.terms (rows_seen changed.retracted) (rows_seen changed.added) (rows_of c.new-lines.result) ≡ end.ledger =
    ap (λ (x : Clock). posted x.terms (rows_seen changed.retracted) (rows_seen changed.added) (rows_of c.new-lines.result)) clock
    ∙ ap (λ l. posted t l (rows_seen changed.added) (rows_of c.new-lines.result)) (c.read-changed.ensures.retracted ∙ gone_read gone new c.args.out.now row written)
    ∙ ap (λ l. posted t gone l (rows_of c.new-lines.result)) (c.read-changed.ensures.added ∙ new_read gone new c.args.out.now row written)
    ∙ ap (posted t gone new) (rows_at c.new-lines.result h.lines p.lines c.new-lines.ensures.cells c.new-lines.ensures.len) in
    let many : c.finish.new.lines.len ≡ length end.ledger = becomes_len c.finish.ensures.lines ∙ ap length ledger in
    let lines = becomes_as c.finish.ensures.lines (ap (max c.new-lines.result.len) many) ledger in
    record {
      parts = parts_are q p c.draft-drafted.result.clock c.finish.new.visits.len c.finish.new.readings.len c.finish.new.lines.len clock
          (becomes_len visits) (becomes_len readings) many c.finish.ensures.head
          (grind (arith, visits.same) ∙ held_in h.visits (length d.live) p.visits end.live c.new-visits.ensures.cells c.new-visits.ensures.len visits)
          (grind (arith, readings.same) ∙ held_in h.readings (length d.seen) p.readings end.seen c.new-readings.ensures.cells c.new-readings.ensures.len readings)
          (grind (arith, lines.same) ∙ held_in h.lines (length end.ledger) p.lines end.ledger c.new-lines.ensures.cells c.new-lines.ensures.len lines);
      out = after;
    }
