-- What `parse` answers, against what the text says.
use Rattle.std.specs.Prelude.{◌≡◌, ℕ, List, Ok, Err, vec_items, Result}
use Rattle.days.specs.declared.Day.{Day}
use Rattle.days.specs.declared.ParseError.{ParseError}
use Rattle.days.specs.declared.ParseError.TheVariants.{Bad, NoMemory}
use Rattle.days.specs.Parsing.{parsed_day}

-- Want of memory says nothing of the text.
abbrev pub Parsed : List ℕ → Result Day ParseError → Type 0
Parsed text (Ok d) = parsed_day text ≡ Ok (d.terms, vec_items d.commands)
Parsed text (Err (Bad b)) = parsed_day text ≡ Err b
Parsed text (Err NoMemory) = Unit {0}
