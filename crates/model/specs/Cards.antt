-- Cards have nothing to do with each other.
use Rattle.std.specs.Prelude.{◌≡◌, ℕ, Bool, true, List, filter}
use Rattle.visit.specs.declared.Terms.{Terms}
use Rattle.command.specs.declared.Command.{Command}
use Rattle.command.specs.declared.Command.TheVariants.{Reading as AReading, Watermark}
use Rattle.model.specs.Reference.{after, closed_of, empty}

-- The commands that some cards have to do with: their readings, and every watermark.
abbrev pub of_cards : (ℕ → Bool) → Command → Bool
of_cards p (AReading e) = p e.card
of_cards p (Watermark m) = true

-- The closed visits of some cards come of their own readings and the watermarks.
abbrev pub CardsApart : Type 0
CardsApart =
    (t : Terms) (p : ℕ → Bool) (cs : List Command)
    → filter (λ v. p v.card) (closed_of t (after t empty cs)) ≡ closed_of t (after t empty (filter (of_cards p) cs))
