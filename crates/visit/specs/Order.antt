-- Items in an order.
use Rattle.std.specs.Prelude.{◌≡◌, Bool, true, List, [], ◌∷◌}
use Rattle.std.specs.List.{AllByRecursion}

-- Each element comes before all that follow it.
abbrev pub RisingBy : {X : Type 0} → (X → X → Bool) → List X → Type 0
RisingBy before [] = Unit {0}
RisingBy before (x ∷ xs) = AllByRecursion (λ y. before x y ≡ true) xs × RisingBy before xs

-- What comes before an item comes before all that follow that item.
abbrev pub Chained : {X : Type 0} → (X → X → Bool) → Type 0
Chained {X} before = (x y z : X) → before x y ≡ true → before y z ≡ true → before x z ≡ true
