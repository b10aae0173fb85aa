use Rattle.std.proofs.Common.{arith}
use Rattle.std.proofs.lemmas.Iterator.{YieldsList-from_slice}
use Rattle.std.proofs.lemmas.Iterator.Consumers.{YieldsList-at, YieldsList-from_copied}
use Rattle.model.proofs.Places.{at_place_is}
use Rattle.reference.proofs.readings.inserted.Goals as goal

pub returns : goal.returns
returns c =
    let items = YieldsList-from_copied (YieldsList-at c.copied.ensures.source (YieldsList-from_slice c.args.readings.now cc)) in
    grind (arith, at_place_is, c.place-at.ensures.before c.args.readings.now items.runs)
