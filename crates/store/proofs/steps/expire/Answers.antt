use Rattle.std.proofs.Common.{refl, sym}
use Rattle.rows.proofs.Becoming.{becomes_as, becomes_itself}
use Rattle.store.proofs.steps.expire.Goals as goal

pub returns-then-settled : goal.returns-then-settled
returns-then-settled c =
    let s = c.requires c.if-settled.true in
    record {
      visits = becomes_as (becomes_itself c.args.visits.now) refl (sym s.visits);
      readings = becomes_as (becomes_itself c.args.readings.now) refl (sym s.readings);
    }
