-- Visits within their limits.
use Rattle.std.proofs.Common.{◌≡◌, ◌*◌, ◌≤◌, List, length, None, arith}
use Rattle.std.specs.List.{AllByRecursion}
use Rattle.std.proofs.ByRecursion.{All-weaker, sum_by_le}
use Rattle.std.proofs.lemmas.Bool.Decides.{nat_tests}
use Rattle.visit.specs.declared.Visit.{Visit}
use Rattle.visit.specs.Sums.{counts, sums}
use Rattle.rows.specs.Limits.{count_limit, first_over, sum_limit}
use Rattle.rows.specs.Visits.{visit_cells, visit_limits}

-- No number of the visit is over its limit.
abbrev pub VisitWithin : Visit → Type 0
VisitWithin v = first_over 0 visit_limits (visit_cells v) ≡ None

count_within : (v : Visit) → VisitWithin v → v.count ≤ count_limit
count_within v h = grind (arith, nat_tests)

sum_within : (v : Visit) → VisitWithin v → v.sum ≤ sum_limit
sum_within v h = grind (arith, nat_tests)

pub counts_within : (vs : List Visit) → AllByRecursion VisitWithin vs → counts vs ≤ length vs * count_limit
counts_within vs a = sum_by_le (λ (v : Visit). v.count) count_limit vs (All-weaker VisitWithin (λ v. v.count ≤ count_limit) count_within vs a)

pub sums_within : (vs : List Visit) → AllByRecursion VisitWithin vs → sums vs ≤ length vs * sum_limit
sums_within vs a = sum_by_le (λ (v : Visit). v.sum) sum_limit vs (All-weaker VisitWithin (λ v. v.sum ≤ sum_limit) sum_within vs a)
