use Rattle.std.proofs.Common.{refl}
use Rattle.rows.proofs.Becoming.{becomes_put}
use Rattle.rows.proofs.table.Table.put.Goals as goal

pub returns : goal.returns
returns g c = record { after = becomes_put c.args.i c.args.row c.requires refl refl c.put.ensures }
