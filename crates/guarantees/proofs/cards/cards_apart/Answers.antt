use Rattle.guarantees.proofs.Beside.{row_cards_apart}
use Rattle.guarantees.proofs.cards.cards_apart.Goals as goal

pub returns : goal.returns
returns c = row_cards_apart
