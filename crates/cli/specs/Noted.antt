-- The options after one word more.
use Rattle.std.specs.Prelude.{◌≡◌, ℕ, Bool, cond, ◌&&◌, not, true, false, List, Some, None, Ok, Err, codes, Option, Result, String, string_bytes}
use Rattle.std.specs.declared.alloc.Global.{Global}
use Rattle.cli.specs.declared.flags.Flag.{Flag}
use Rattle.cli.specs.declared.flags.Flag.TheVariants.{Help, Version, Strict, Unpack, Full, Unknown, Name}
use Rattle.cli.specs.Flags.{Reads}
use Rattle.cli.specs.declared.options.Options.{Options}
use Rattle.cli.specs.declared.options.Usage.{Usage}
use Rattle.cli.specs.declared.options.Usage.TheVariants.{UnknownOption, TwoFiles}

-- There is at most one file.
abbrev pub with_file : Options → Option (String Global) → String Global → Result Options Usage
with_file o None word = Ok (record { help = o.help; version = o.version; strict = o.strict; unpack = o.unpack; full = o.full; file = Some word })
with_file o (Some other) word = Err TwoFiles

-- A word that is refused leaves no options.
abbrev pub noted : Options → String Global → Result Flag Usage → Result Options Usage
noted o word (Err e) = Err e
noted o word (Ok Help) = Ok (record { help = true; version = o.version; strict = o.strict; unpack = o.unpack; full = o.full; file = o.file })
noted o word (Ok Version) = Ok (record { help = o.help; version = true; strict = o.strict; unpack = o.unpack; full = o.full; file = o.file })
noted o word (Ok Strict) = Ok (record { help = o.help; version = o.version; strict = true; unpack = o.unpack; full = o.full; file = o.file })
noted o word (Ok Unpack) = Ok (record { help = o.help; version = o.version; strict = o.strict; unpack = true; full = o.full; file = o.file })
noted o word (Ok Full) = Ok (record { help = o.help; version = o.version; strict = o.strict; unpack = o.unpack; full = true; file = o.file })
noted o word (Ok Unknown) = Err UnknownOption
noted o word (Ok Name) = with_file o o.file word

-- What is noted of a word is what it is read as.
abbrev pub Notes : Options → String Global → Result Options Usage → Type 0
Notes o word r = (flag : Result Flag Usage) × Reads (string_bytes word) flag × (r ≡ noted o word flag)

-- Not every program has --full.
abbrev pub checked : (has_full : Bool) → Options → Result Options Usage
checked has_full o = cond (o.full && not has_full) (Err UnknownOption) (Ok o)

abbrev pub no_options : Options
no_options = record { help = false; version = false; strict = false; unpack = false; full = false; file = None }

-- What is said of a command line that is refused.
abbrev pub usage_text : Usage → List ℕ
usage_text UnknownOption = codes "unknown option; --help says which there are"
usage_text TwoFiles = codes "more than one file"
