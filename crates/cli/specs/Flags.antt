-- What a word of the command line is.
use Rattle.std.specs.Prelude.{◌≡◌, ℕ, List, codes, ◌≢◌, Ok, Err, Result, slice_index}
use Rattle.cli.specs.declared.flags.Flag.{Flag}
use Rattle.cli.specs.declared.flags.Flag.TheVariants.{Help, Version, Strict, Unpack, Full, Unknown, Name}
use Rattle.cli.specs.declared.options.Usage.{Usage}
use Rattle.cli.specs.declared.options.Usage.TheVariants.{UnknownOption}

-- A word that begins with a minus is an option; one that is none of these is unknown. Any other word is a file's name.
abbrev pub Means : List ℕ → Flag → Type 0
Means word Help = word ≡ codes "--help"
Means word Version = word ≡ codes "--version"
Means word Strict = word ≡ codes "--strict"
Means word Unpack = word ≡ codes "--unpack"
Means word Full = word ≡ codes "--full"
Means word Unknown =
    (slice_index word 0 ≡ 45) × (word ≢ codes "--help") × (word ≢ codes "--version") × (word ≢ codes "--strict") × (word ≢ codes "--unpack") × (word ≢ codes "--full")
Means word Name = slice_index word 0 ≡ 45 → ⊥

-- What is unknown is refused, and nothing else.
abbrev pub Reads : List ℕ → Result Flag Usage → Type 0
Reads word (Ok flag) = Means word flag × (flag ≢ Unknown)
Reads word (Err e) = (e ≡ UnknownOption) × Means word Unknown
