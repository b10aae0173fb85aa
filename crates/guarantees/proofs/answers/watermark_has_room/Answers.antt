use Rattle.guarantees.proofs.Moments.{watermark_has_room}
use Rattle.guarantees.proofs.answers.watermark_has_room.Goals as goal

pub returns : goal.returns
returns c = watermark_has_room
