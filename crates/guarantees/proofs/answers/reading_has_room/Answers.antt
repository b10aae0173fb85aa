use Rattle.guarantees.proofs.Moments.{reading_has_room}
use Rattle.guarantees.proofs.answers.reading_has_room.Goals as goal

pub returns : goal.returns
returns c = reading_has_room
