use Rattle.std.proofs.Common.{◌≡◌, not, rules, tests, ap, ◌∙◌}
use Rattle.std.specs.List.{list_any}
use Rattle.std.proofs.lemmas.Iterator.{YieldsList-from_slice, items_from_collect}
use Rattle.std.proofs.lemmas.Iterator.Consumers.{YieldsList-at, YieldsList-from_copied, YieldsList-from_filter}
use Rattle.reference.proofs.Listed.{equal, listed}
use Rattle.reference.proofs.visits.difference.Goals as goal

pub returns : goal.returns
returns c t =
    items_from_collect _ c.collect.ensures.ran
    (YieldsList-from_filter _ _ (YieldsList-at c.filter.ensures.source (YieldsList-from_copied (YieldsList-at c.copied.ensures.source (YieldsList-from_slice c.args.visits.now cc)))) c.filter.ensures.closure (λ x b q k.
    let missing : b ≡ not (list_any (λ w. equal w x) c.args.from.now) = search (rules, tests) in
    (search rules, missing ∙ ap not (listed t x c.args.from.now))))
