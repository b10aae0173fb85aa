use Rattle.guarantees.proofs.Moments.{first_calls_sound}
use Rattle.guarantees.proofs.answers.first_calls_sound.Goals as goal

pub returns : goal.returns
returns c = first_calls_sound
