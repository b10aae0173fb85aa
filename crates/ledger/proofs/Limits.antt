-- Lines that are within their limits leave room for more.
use Rattle.std.proofs.Common.{◌≡◌, ℕ, ◌^◌, ◌<◌, ◌≤◌, List, None, arith}
use Rattle.std.specs.List.{AllByRecursion}
use Rattle.std.proofs.ByRecursion.{All-weaker}
use Rattle.std.proofs.lemmas.Bool.Decides.{nat_tests}
use Rattle.visit.specs.declared.Line.{Line}
use Rattle.rows.specs.Limits.{count_limit, first_over, sum_limit}
use Rattle.rows.specs.Lines.{line_cells, line_limits}
use Rattle.ledger.specs.Fits.{Fits, FitsIn}

-- No number of a line is over its limit.
abbrev pub LineWithin : Line → Type 0
LineWithin l = first_over 0 line_limits (line_cells l) ≡ None

-- A line's limits are far below 64 bits, so 2^63 more visits of the sum 2^63 still fit.
line_limited : (l : Line) → LineWithin l → (l.visits < count_limit) × (l.sum < sum_limit)
line_limited l h = (grind (arith, nat_tests), grind (arith, nat_tests))

pub fits_within : (k s : ℕ) (ls : List Line) → k ≤ 2 ^ 63 → s ≤ 2 ^ 63 → AllByRecursion LineWithin ls → Fits k s ls
fits_within k s ls few small a =
    record {
      visits = omega arith;
      sum = omega arith;
      lines = All-weaker LineWithin (FitsIn k s) (λ l h. let b = line_limited l h in (omega (arith, b.0), omega (arith, b.1))) ls a;
    }
