use Rattle.std.proofs.Common.{◌≡◌, ◌+◌, max, sym, ap, subst, arith}
use Rattle.command.specs.declared.Command.{Command}
use Rattle.command.specs.declared.Command.TheVariants.{Reading as AReading}
use Rattle.rows.specs.declared.search.Search.{Search}
use Rattle.rows.specs.Search.{Allows}
use Rattle.rows.specs.Tables.{HasRoom, rows_of}
use Rattle.rows.proofs.Becoming.{becomes_as, becomes_itself, becomes_len, length_of}
use Rattle.store.specs.Order.{Current}
use Rattle.store.specs.Steps.{Draftable, draft_of, standing}
use Rattle.store.proofs.Allowed.{length_inserted}
use Rattle.store.proofs.Settling.{taken_settled}
use Rattle.store.proofs.steps.draft.Goals as goal

pub returns-in-Reading-clause-readings : goal.returns-in-Reading-clause-readings
returns-in-Reading-clause-readings c =
    let k = c.args.clock in
    let es = c.args.readings.now in
    let after = c.draft_reading.ensures.readings in
    let many : es.len + 1 ≡ max es.len c.draft_reading.new.readings.len =
    omega (arith, becomes_len after, length_inserted k.terms c.in-Reading.reading (rows_of es), length_of es) in
    becomes_as after many (ap (λ (x : Command). (draft_of k.terms (standing k c.args.visits.now es) x).seen) (sym c.in-Reading.is))

pub returns-in-Watermark-clause-visits : goal.returns-in-Watermark-clause-visits
returns-in-Watermark-clause-visits c =
    let k = c.args.clock in
    let vs = c.args.visits.now in
    becomes_as (becomes_itself vs) (omega arith) (ap (λ (x : Command). (draft_of k.terms (standing k vs c.args.readings.now) x).live) (sym c.in-Watermark.is))

pub returns-in-Watermark-clause-readings : goal.returns-in-Watermark-clause-readings
returns-in-Watermark-clause-readings c =
    let k = c.args.clock in
    let es = c.args.readings.now in
    becomes_as (becomes_itself es) (omega arith) (ap (λ (x : Command). (draft_of k.terms (standing k c.args.visits.now es) x).seen) (sym c.in-Watermark.is))

pub returns-in-Reading-clause-settled : goal.returns-in-Reading-clause-settled
returns-in-Reading-clause-settled c =
    λ h.
    let k = c.args.clock in
    let e = c.in-Reading.reading in
    let vs = c.args.visits.now in
    let es = c.args.readings.now in
    let b = standing k vs es in
    let now : Current k.terms b = subst (λ (s : Search). Allows s (Current k.terms b)) (c.stays_settled-settled.ensures h).0 c.requires.order in
    let may : Draftable (HasRoom vs 1) (HasRoom es 1) k.terms b (AReading e) = subst (Draftable (HasRoom vs 1) (HasRoom es 1) k.terms b) c.in-Reading.is c.requires.draftable in
    let after = c.draft_reading.ensures in
    rw (after.visits.rows, after.readings.rows) (taken_settled k e (rows_of vs) (rows_of es) may.2 now.visits now.readings now.settled)
