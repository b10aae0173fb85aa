-- Visits within their limits, whose counts and sums fit together.
use Rattle.std.proofs.Common.{◌≡◌, ℕ, ◌*◌, ◌≤◌, List, length, None, sym}
use Rattle.std.specs.List.{AllByRecursion, repeat}
use Rattle.rows.specs.Limits.{count_limit, first_over, sum_limit}
use Rattle.rows.specs.Visits.{visit_laws, visit_limited, visit_limits, visit_width, visits_in}
use Rattle.rows.proofs.Overs.{none_over}
use Rattle.rows.proofs.Splits.{length_rows}
use Rattle.rows.proofs.Within.{VisitWithin, counts_within, sums_within}
use Rattle.visit.specs.Sums.{counts, sums}

-- Where a table is seen to be within its limits, and still stands so.
module _ (n : ℕ) (xs : List ℕ) (room : n * visit_width ≤ length xs) (none : None ≡ first_over 0 (repeat n visit_limits) xs) (k : ℕ) (ys : List ℕ) (same_len : k ≡ n) (same_cells : ys ≡ xs) where
  each_within : AllByRecursion VisitWithin (visits_in n xs)
  each_within = none_over visit_laws visit_limits visit_limited 0 n xs room (sym none)

  pub counts_limited : counts (visits_in k ys) ≤ k * count_limit
  counts_limited = rw (same_len, same_cells) (rw length_rows at (counts_within (visits_in n xs) each_within))

  pub sums_limited : sums (visits_in k ys) ≤ k * sum_limit
  sums_limited = rw (same_len, same_cells) (rw length_rows at (sums_within (visits_in n xs) each_within))
