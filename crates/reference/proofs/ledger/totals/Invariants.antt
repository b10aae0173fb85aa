use Rattle.std.proofs.Common.{◌≡◌, ◌+◌, drop, vec_items}
use Rattle.model.specs.Ledger.{add_visits, totals}
use Rattle.visit.specs.Sums.{line_sums, line_visits, sums}
use Rattle.reference.proofs.ledger.totals.Given as goal

-- What is left of the visits, added to the lines so far, gives all; nothing is lost of the sums.
abbrev pub invariant-loop-visit : goal.invariant-loop-visit
invariant-loop-visit l =
    (add_visits l.terms (drop l.visit-index l.visits) (vec_items l.lines) ≡ totals l.terms l.visits)
    × (line_visits (vec_items l.lines) ≡ l.visit-index)
    × (line_sums (vec_items l.lines) + sums (drop l.visit-index l.visits) ≡ sums l.visits)
