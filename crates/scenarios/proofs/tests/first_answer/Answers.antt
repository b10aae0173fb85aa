use Rattle.std.proofs.Common.{refl, ap, ◌∙◌}
use Rattle.store.specs.Checks.{sound_row}
use Rattle.store.specs.Contents.{empty_row}
use Rattle.owned.proofs.Writing.{first_written, written_sound}
use Rattle.scenarios.proofs.tests.first_answer.Goals as goal

pub answer_sound-requires : goal.answer_sound-requires
answer_sound-requires c =
    let xs = c.args.row.now in
    ap sound_row c.clear.ensures ∙ written_sound (empty_row _ xs) 0 0 refl (first_written _ xs)
