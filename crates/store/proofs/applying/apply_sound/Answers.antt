use Rattle.std.proofs.Common.{length, Err, sym, ap, ◌∙◌, subst, arith}
use Rattle.std.proofs.lemmas.Result.{err_from_is_err_and}
use Rattle.command.specs.Outcomes.{reply_of}
use Rattle.changes.specs.Out.{outcome_row, overlay}
use Rattle.rows.specs.Search.{Allows}
use Rattle.store.specs.declared.header.Header.{Header}
use Rattle.store.specs.Applied.{outcome_in, row_by}
use Rattle.store.specs.Contents.{store_of}
use Rattle.store.specs.Order.{Orderly}
use Rattle.store.specs.Parts.{Parts, parts, parts_from, whole}
use Rattle.store.specs.Steps.{Performable, Performed}
use Rattle.store.proofs.Bounds.{sized_by}
use Rattle.store.proofs.Cuts.{cut_parts}
use Rattle.store.proofs.Passing.{passed_by, refused_by}
use Rattle.store.proofs.Verdicts.{bare, out_is, out_long, performs, reply_is, store_is, with_rest}
use Rattle.store.proofs.applying.apply_sound.Goals as goal

pub split_at_mut-visits-requires : goal.split_at_mut-visits-requires
split_at_mut-visits-requires c = omega (arith, (sized_by c.args.store.now c.requires.sound).size)

pub split_at_mut-readings-requires : goal.split_at_mut-readings-requires
split_at_mut-readings-requires c = omega (arith, (sized_by c.args.store.now c.requires.sound).size)

pub split_at_mut-lines-requires : goal.split_at_mut-lines-requires
split_at_mut-lines-requires c = omega (arith, (sized_by c.args.store.now c.requires.sound).size)

pub perform-requires-clause-performable : goal.perform-requires-clause-performable
perform-requires-clause-performable c =
    let xs = c.args.store.now in
    let cs = c.args.row.now in
    let n = length c.args.out.now in
    let q = c.in_ok-ready.ready in
    let cut = cut_parts c.args.store.now c.split_at_mut-head.result.0.now c.split_at_mut-visits.result.0.now c.split_at_mut-readings.result.0.now c.split_at_mut-lines.result.0.now
    c.split_at_mut-head.result.1.now c.split_at_mut-visits.result.1.now c.split_at_mut-readings.result.1.now c.split_at_mut-lines.result.1.now
    c.split_at_mut-head.ensures.front c.split_at_mut-head.ensures.back c.split_at_mut-visits.ensures.front c.split_at_mut-visits.ensures.back
    c.split_at_mut-readings.ensures.front c.split_at_mut-readings.ensures.back c.split_at_mut-lines.ensures.front c.split_at_mut-lines.ensures.back in
    subst (λ (p : Parts). Performable q.header (store_of q.header (bare p)) q.command) (sym cut) (performs c.args.capacity xs cs n q (passed_by c.args.capacity xs cs n q c.in_ok-ready.ensures))

pub perform-requires-clause-order : goal.perform-requires-clause-order
perform-requires-clause-order c =
    let xs = c.args.store.now in
    let q = c.in_ok-ready.ready in
    let ok = passed_by c.args.capacity xs c.args.row.now (length c.args.out.now) q c.in_ok-ready.ensures in
    let cut = cut_parts c.args.store.now c.split_at_mut-head.result.0.now c.split_at_mut-visits.result.0.now c.split_at_mut-readings.result.0.now c.split_at_mut-lines.result.0.now
    c.split_at_mut-head.result.1.now c.split_at_mut-visits.result.1.now c.split_at_mut-readings.result.1.now c.split_at_mut-lines.result.1.now
    c.split_at_mut-head.ensures.front c.split_at_mut-head.ensures.back c.split_at_mut-visits.ensures.front c.split_at_mut-visits.ensures.back
    c.split_at_mut-readings.ensures.front c.split_at_mut-readings.ensures.back c.split_at_mut-lines.ensures.front c.split_at_mut-lines.ensures.back in
    subst (λ (p : Parts). Allows c.args.search (Orderly q.header.clock.terms (store_of q.header (bare p)))) (sym cut)
    (subst (λ (h : Header). Allows c.args.search (Orderly h.clock.terms (store_of h (parts xs)))) (sym ok.header) c.requires.order)

pub perform-requires-clause-out : goal.perform-requires-clause-out
perform-requires-clause-out c =
    let xs = c.args.store.now in
    let cs = c.args.row.now in
    let n = length c.args.out.now in
    let q = c.in_ok-ready.ready in
    out_long c.args.capacity xs cs n q (passed_by c.args.capacity xs cs n q c.in_ok-ready.ensures)

pub returns-in_err-ready : goal.returns-in_err-ready
returns-in_err-ready c =
    let xs = c.args.store.now in
    let out = c.args.out.now in
    let p = err_from_is_err_and c.from_residual.result c.from_residual.ensures.1 in
    let e = sym (refused_by c.args.capacity xs c.args.row.now (length out) c.in_err-ready.field-0.0 c.in_err-ready.ensures) in
    record { reply = p.1 ∙ ap Err p.2 ∙ ap (λ v. reply_of (outcome_in xs v)) e; store = ap (row_by xs) e; out = ap (λ v. overlay (outcome_row (outcome_in xs v)) out) e }

pub returns : goal.returns
returns c =
    let cap = c.args.capacity in
    let xs = c.args.store.now in
    let cs = c.args.row.now in
    let out = c.args.out.now in
    let q = c.in_ok-ready.ready in
    let ok = passed_by cap xs cs (length out) q c.in_ok-ready.ensures in
    let after = parts_from c.perform.new.head c.perform.new.visits c.perform.new.readings c.perform.new.lines in
    let cut = cut_parts c.args.store.now c.split_at_mut-head.result.0.now c.split_at_mut-visits.result.0.now c.split_at_mut-readings.result.0.now c.split_at_mut-lines.result.0.now
    c.split_at_mut-head.result.1.now c.split_at_mut-visits.result.1.now c.split_at_mut-readings.result.1.now c.split_at_mut-lines.result.1.now
    c.split_at_mut-head.ensures.front c.split_at_mut-head.ensures.back c.split_at_mut-visits.ensures.front c.split_at_mut-visits.ensures.back
    c.split_at_mut-readings.ensures.front c.split_at_mut-readings.ensures.back c.split_at_mut-lines.ensures.front c.split_at_mut-lines.ensures.back in
    let done = subst (λ (p : Parts). Performed q (bare p) after c.perform.result out c.perform.new.out) cut c.perform.ensures in
    record {
      reply = reply_is cap xs cs (length out) q ok c.perform.result done.out.many;
      store = ap (λ (p : Parts). whole (with_rest p.rest after)) cut ∙ store_is cap xs cs (length out) q ok after done.parts;
      out = out_is cap xs cs (length out) q ok out c.perform.new.out done.out.out;
    }
