use Rattle.model.proofs.Changes.{watermark_adds}
use Rattle.model.proofs.few.watermark_adds.Goals as goal

pub returns : goal.returns
returns c = watermark_adds
