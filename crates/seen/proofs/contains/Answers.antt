use Rattle.std.proofs.Common.{rules}
use Rattle.std.proofs.lemmas.Iterator.Search.{any_from_yields_List}
use Rattle.visit.specs.Readings.{same_reading}
use Rattle.rows.specs.Tables.{rows_seen}
use Rattle.rows.proofs.Running.{rows_list}
use Rattle.seen.proofs.contains.Goals as goal

pub returns-in-FromFront : goal.returns-in-FromFront
returns-in-FromFront c =
    any_from_yields_List (same_reading c.args.terms c.args.reading) c.any.new.self _ c.any.result c.any.ensures.ran (rows_list (rows_seen c.args.rows) c.iter.ensures.rest) (λ x b q k. search rules)
