use Rattle.std.proofs.Common.{◌∙◌, rules, tests}
use Rattle.std.specs.List.{zip}
use Rattle.std.proofs.lemmas.Iterator.{YieldsList-from_slice, YieldsList-from_zip}
use Rattle.std.proofs.lemmas.Iterator.Adapters.{position_from-zero}
use Rattle.std.proofs.lemmas.Iterator.Search.{position_from_yields_List}
use Rattle.rows.specs.Limits.{over}
use Rattle.rows.proofs.Overs.{over_zip}
use Rattle.rows.proofs.limits.over.Goals as goal

pub returns : goal.returns
returns c =
    let xs = c.args.cells.now in
    let ls = c.args.limits.now in
    position_from_yields_List (λ p. over p.1 p.0) c.position.new.self _ c.position.result c.position.ensures.ran
    (YieldsList-from_zip (YieldsList-from_slice xs cc) (YieldsList-from_slice ls cc)) (λ x b q k. search (rules, tests))
    ∙ position_from-zero (λ p. over p.1 p.0) (zip xs ls) ∙ over_zip 0 ls xs
