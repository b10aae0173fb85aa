-- A line taken from the one at a place.
use Rattle.std.specs.Prelude.{ℕ, cond, List, [], ◌∷◌, ◌++◌, take, drop, ◌==◌}
use Rattle.visit.specs.declared.Line.{Line}
use Rattle.visit.specs.Lines.{line_minus}

-- Taken from the first: it goes if it has no more visits.
abbrev pub take_here : Line → List Line → List Line
take_here l [] = []
take_here l (x ∷ xs) = cond (x.visits == l.visits) xs (line_minus x l ∷ xs)

-- The lines before place i stay.
unfoldable pub taken_at : Line → ℕ → List Line → List Line
taken_at l i xs = take i xs ++ take_here l (drop i xs)
