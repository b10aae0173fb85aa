-- The order in which readings come does not matter.
use Rattle.std.specs.Prelude.{◌≡◌, List}
use Rattle.std.specs.List.{ContainsAt as Has}
use Rattle.visit.specs.declared.Reading.{Reading}
use Rattle.visit.specs.declared.Terms.{Terms}
use Rattle.command.specs.declared.Command.{Command}
use Rattle.model.specs.Reference.{Reference, after, closed_of, empty}

-- Two states have taken in the same readings, with the same amounts, and have the same watermark.
pub record SameTaken (k l : Reference) : Type 0 where
  pub here : (e : Reading) → Has k.readings e → Has l.readings e
  pub there : (e : Reading) → Has l.readings e → Has k.readings e
  pub watermark : k.watermark ≡ l.watermark

-- Two states agree in their readings, in their closed visits, and so in everything.
pub record SameState (t : Terms) (k l : Reference) : Type 0 where
  pub readings : k.readings ≡ l.readings
  pub closed : closed_of t k ≡ closed_of t l
  pub whole : k ≡ l

abbrev pub AnyOrder : Type 0
AnyOrder =
    (t : Terms) (cs ds : List Command)
    → SameTaken (after t empty cs) (after t empty ds) → SameState t (after t empty cs) (after t empty ds)
