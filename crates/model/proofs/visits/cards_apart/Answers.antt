use Rattle.model.proofs.Cards.{cards_apart}
use Rattle.model.proofs.visits.cards_apart.Goals as goal

pub returns : goal.returns
returns c = cards_apart
