-- The command file of a text.
use Rattle.std.specs.Prelude.{◌≡◌, ℕ, List, ◌++◌, Ok, Err, vec_items, Result, Vec}
use Rattle.std.specs.declared.alloc.Global.{Global}
use Rattle.std.specs.List.{flat_map}
use Rattle.visit.specs.declared.Terms.{Terms}
use Rattle.command.specs.declared.Command.{Command}
use Rattle.feed.specs.Files.{command_bytes, terms_bytes}
use Rattle.days.specs.declared.BadLine.{BadLine}
use Rattle.days.specs.declared.ParseError.{ParseError}
use Rattle.days.specs.declared.ParseError.TheVariants.{Bad, NoMemory}
use Rattle.days.specs.Parsing.{parsed_day, then}

-- The terms, then the commands one behind another.
abbrev pub file_of : Terms → List Command → List ℕ
file_of t cs = terms_bytes t ++ flat_map command_bytes cs

-- The file of the day that a text says, or the first bad line.
abbrev pub packed : List ℕ → Result (List ℕ) BadLine
packed text = then (parsed_day text) (λ d. Ok (file_of d.0 d.1))

-- What `pack` answers; want of memory says nothing of the text.
abbrev pub Packs : List ℕ → Result (Vec ℕ Global) ParseError → Type 0
Packs text (Ok v) = packed text ≡ Ok (vec_items v)
Packs text (Err (Bad b)) = packed text ≡ Err b
Packs text (Err NoMemory) = Unit {0}
