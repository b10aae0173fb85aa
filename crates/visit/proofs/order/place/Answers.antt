use Rattle.std.proofs.Common.{Bool, rules, ◌∙◌}
use Rattle.std.proofs.lemmas.Iterator.{YieldsList}
use Rattle.std.proofs.lemmas.Iterator.Consumers.{YieldsList-at, count_from_yields_List}
use Rattle.std.proofs.lemmas.Iterator.Search.{YieldsList-from_take_while}
use Rattle.std.proofs.lemmas.List.Folds.{length-prefix_len}
use Rattle.visit.proofs.order.place.Goals as goal

pub returns-clause-before : goal.returns-clause-before
returns-clause-before g c xs given =
    let earlier : g.row.T.Denot → Bool = λ x. g.T.Ordered.precedes c.args.terms x c.args.item in
    let list : YieldsList g.I.Iterator.next_gives (λ (x : g.row.T.Denot). x) c.args.items xs = record { runs = given } in
    count_from_yields_List _ c.count.result c.count.ensures.ran
    (YieldsList-from_take_while _ earlier (YieldsList-at c.take_while.ensures.source list) c.take_while.ensures.closure c.take_while.ensures.done (λ x b q k. search rules))
    ∙ length-prefix_len earlier xs
