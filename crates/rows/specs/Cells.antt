-- What the moves of cells leave.
use Rattle.std.specs.Prelude.{ℕ, ◌+◌, ◌-◌, ◌*◌, List, ◌++◌, take, drop, replicate}
use Rattle.std.specs.List.{between}

-- Cells from a up to e are 0, all others as they were.
abbrev pub cleared : ℕ → ℕ → List ℕ → List ℕ
cleared a e xs = take a xs ++ (replicate (e - a) 0 ++ drop e xs)

-- The cells from a up to e stand w further; those that they leave are as they were.
abbrev pub opened : ℕ → ℕ → ℕ → List ℕ → List ℕ
opened a e w xs = take (a + w) xs ++ (between a e xs ++ drop (e + w) xs)

-- The w cells at a are gone, the ones behind them up to e have come nearer, and what they leave is 0.
abbrev pub closed_up : ℕ → ℕ → ℕ → List ℕ → List ℕ
closed_up a e w xs = take a xs ++ (between (a + w) e xs ++ (replicate w 0 ++ drop e xs))

-- Of n rows of w cells those from `from` on begin at row `to`; the cells that they leave and no row takes are 0.
abbrev pub shifted : ℕ → ℕ → ℕ → ℕ → List ℕ → List ℕ
shifted w n from to xs =
    take (to * w) xs ++ (between (from * w) (n * w) xs ++ (replicate ((from - to) * w) 0 ++ drop ((n + (to - from)) * w) xs))
