-- What may still be added to the lines of a ledger.
use Rattle.std.specs.Prelude.{ℕ, ◌+◌, ◌^◌, ◌<◌, List}
use Rattle.std.specs.List.{AllByRecursion}
use Rattle.visit.specs.declared.Line.{Line}

-- k visits of the sum s in all, put to a line, fit in 64 bits.
abbrev pub FitsIn : ℕ → ℕ → Line → Type 0
FitsIn k s l = (l.visits + k < 2 ^ 64) × (l.sum + s < 2 ^ 64)

-- They fit in a line of their own, and in each of these lines.
pub record Fits (k s : ℕ) (ls : List Line) : Type 0 where
  pub visits : k < 2 ^ 64
  pub sum : s < 2 ^ 64
  pub lines : AllByRecursion (FitsIn k s) ls
