use Rattle.guarantees.proofs.Meeting.{row_watermark_adds}
use Rattle.guarantees.proofs.corrections.watermark_adds.Goals as goal

pub returns : goal.returns
returns c = row_watermark_adds
