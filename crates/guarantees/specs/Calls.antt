-- Calls on one row, one after another.
use Rattle.std.specs.Prelude.{ℕ, List, [], ◌∷◌}
use Rattle.store.specs.declared.capacity.Capacity.{Capacity}
use Rattle.store.specs.Applied.{Applied, applied}

-- What a caller hands over besides the store: how much it may hold, the row of the command, and the row for the changes.
pub record Call : Type 0 where
  pub capacity : Capacity
  pub command : List ℕ
  pub out : List ℕ

abbrev pub answer : List ℕ → Call → Applied
answer xs c = applied c.capacity xs c.command c.out

-- The answers to calls, each on the row that the one before it left, and the row that the last one leaves.
abbrev pub answers : List ℕ → List Call → List Applied
answers xs [] = []
answers xs (c ∷ cs) = answer xs c ∷ answers (answer xs c).store cs

abbrev pub row_left : List ℕ → List Call → List ℕ
row_left xs [] = xs
row_left xs (c ∷ cs) = row_left (answer xs c).store cs
