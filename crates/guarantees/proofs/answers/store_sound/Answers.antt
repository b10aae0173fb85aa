use Rattle.guarantees.proofs.Moments.{store_sound}
use Rattle.guarantees.proofs.answers.store_sound.Goals as goal

pub returns : goal.returns
returns c = store_sound
