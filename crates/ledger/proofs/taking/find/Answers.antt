use Rattle.std.proofs.Common.{Bool, rules}
use Rattle.std.proofs.lemmas.Iterator.Search.{position_from_yields_List}
use Rattle.visit.specs.declared.Line.{Line}
use Rattle.visit.specs.Lines.{same_key}
use Rattle.rows.specs.Tables.{rows_seen}
use Rattle.rows.proofs.Running.{rows_list}
use Rattle.ledger.specs.Keys.{first_of_key}
use Rattle.ledger.proofs.taking.find.Goals as goal

pub returns-in-FromFront : goal.returns-in-FromFront
unfolding first_of_key
returns-in-FromFront c =
    let of_key : Line → Bool = λ x. same_key c.args.terms x c.args.line in
    position_from_yields_List of_key c.position.new.self _ c.position.result c.position.ensures.ran (rows_list (rows_seen c.args.rows) c.iter.ensures.rest) (λ x b q k. search rules)
