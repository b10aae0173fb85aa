use Rattle.std.proofs.Common.{rules}
use Rattle.std.proofs.lemmas.Iterator.Search.{any_from_yields_List}
use Rattle.visit.specs.Visits.{same_visit}
use Rattle.rows.specs.Tables.{rows_seen}
use Rattle.rows.proofs.Running.{rows_list}
use Rattle.changes.proofs.reading.contains.Goals as goal

pub returns : goal.returns
returns c =
    any_from_yields_List (same_visit c.args.terms c.args.visit) c.any.new.self _ c.any.result c.any.ensures.ran (rows_list (rows_seen c.args.rows) c.iter.ensures.rest) (λ x b q k. search rules)
