-- What is answered of a whole file.
use Rattle.std.specs.Prelude.{◌≡◌, ℕ, List, None, Ok, Err, Result}
use Rattle.feed.specs.declared.whole.FileError.{FileError}
use Rattle.feed.specs.declared.whole.FileError.TheVariants.{NoMemory, TooShort}
use Rattle.feed.specs.Files.{terms_in}

-- Of a file that has terms, such an answer; else that it is too short for them. Want of memory says nothing of the file.
abbrev pub OfFile : {A : Type 0} → (A → Type 0) → List ℕ → Result A FileError → Type 0
OfFile P file (Ok a) = P a
OfFile P file (Err TooShort) = terms_in file ≡ None
OfFile P file (Err NoMemory) = Unit {0}
