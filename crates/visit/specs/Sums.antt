-- Sums over a whole list, by which every sum of a visit or a line is seen to fit in 64 bits.
use Rattle.std.specs.Prelude.{ℕ, ◌+◌, ◌^◌, ◌<◌, List, sum_by}
use Rattle.visit.specs.declared.Line.{Line}
use Rattle.visit.specs.declared.Reading.{Reading}
use Rattle.visit.specs.declared.Visit.{Visit}

abbrev pub amounts : List Reading → ℕ
amounts es = sum_by (λ e. e.amount) es

abbrev pub counts : List Visit → ℕ
counts vs = sum_by (λ v. v.count) vs

abbrev pub sums : List Visit → ℕ
sums vs = sum_by (λ v. v.sum) vs

-- Of visits, and so many readings more that come to so much, counts and sums fit in 64 bits.
pub record SumsFit (vs : List Visit) (readings amount : ℕ) : Type 0 where
  pub count : counts vs + readings < 2 ^ 64
  pub sum : sums vs + amount < 2 ^ 64

abbrev pub line_visits : List Line → ℕ
line_visits ls = sum_by (λ l. l.visits) ls

abbrev pub line_sums : List Line → ℕ
line_sums ls = sum_by (λ l. l.sum) ls
