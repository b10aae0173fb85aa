use Rattle.std.proofs.Common.{Err, length, sym, ap, ◌∙◌}
use Rattle.std.proofs.lemmas.Result.{err_from_is_err_and}
use Rattle.command.specs.Outcomes.{reply_of}
use Rattle.changes.specs.Out.{outcome_row, overlay}
use Rattle.store.specs.Applied.{outcome_in, row_by}
use Rattle.store.proofs.Bounds.{sound_if}
use Rattle.store.proofs.Verdicts.{refused_unsound}
use Rattle.store.proofs.applying.apply_within.Goals as goal

pub apply_sound-requires-clause-sound : goal.apply_sound-requires-clause-sound
apply_sound-requires-clause-sound c = sound_if c.args.store.now c.in_ok-check_sound.ensures

pub returns-in_err-check_sound : goal.returns-in_err-check_sound
returns-in_err-check_sound c =
    let xs = c.args.store.now in
    let out = c.args.out.now in
    let p = err_from_is_err_and c.from_residual.result c.from_residual.ensures.1 in
    let e = sym (refused_unsound c.args.capacity xs c.args.row.now (length out) c.in_err-check_sound.field-0.0 c.in_err-check_sound.ensures) in
    record { reply = p.1 ∙ ap Err p.2 ∙ ap (λ v. reply_of (outcome_in xs v)) e; store = ap (row_by xs) e; out = ap (λ v. overlay (outcome_row (outcome_in xs v)) out) e }
