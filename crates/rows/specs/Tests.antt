-- Tests on elements.
use Rattle.std.specs.Prelude.{◌≡◌, Bool}

-- Each answer that `answered` allows is that of p.
abbrev pub Answers : {X : Type 0} → (X → Bool → Type 0) → (X → Bool) → Type 0
Answers {X = X} answered p = (x : X) (b : Bool) → answered x b → b ≡ p x
