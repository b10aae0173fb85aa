use Rattle.model.proofs.Changes.{only_what_is_met}
use Rattle.model.proofs.few.only_what_is_met.Goals as goal

pub returns : goal.returns
returns c = only_what_is_met
