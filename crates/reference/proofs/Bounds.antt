-- What a command that may be done keeps to.
use Rattle.std.proofs.Common.{◌^◌, ◌<◌, IsOk, arith}
use Rattle.std.proofs.lemmas.Bool.Decides.{nat_tests}
use Rattle.visit.specs.declared.Reading.{Reading}
use Rattle.visit.specs.declared.Terms.{Terms}
use Rattle.command.specs.declared.Command.TheVariants.{Reading as AReading}
use Rattle.model.specs.Reference.{Reference as Model, bounded_plan}

pub small_amount : (t : Terms) (k : Model) (e : Reading) → IsOk (bounded_plan t k (AReading e)) → e.amount < 2 ^ 32
small_amount t k e h = grind (arith, nat_tests)
