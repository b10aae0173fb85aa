-- The text of answers and of the ledger: one newline behind each line.
use Rattle.std.specs.Prelude.{ℕ, List, [], ◌∷◌, ◌++◌, codes}
use Rattle.std.specs.List.{flat_map}
use Rattle.visit.specs.Text.{line_text, visit_text}
use Rattle.visit.specs.declared.Line.{Line}
use Rattle.visit.specs.declared.Visit.{Visit}
use Rattle.command.specs.Outcomes.{Outcome, changed, refused}
use Rattle.command.specs.Text.{refusal_text}
use Rattle.feed.specs.declared.files.EncodeError.{EncodeError}
use Rattle.feed.specs.declared.files.EncodeError.TheVariants.{TooLarge, OutOfMemory}
use Rattle.feed.specs.declared.whole.FileError.{FileError}
use Rattle.feed.specs.declared.whole.FileError.TheVariants.{NoMemory, TooShort}

abbrev pub change_text : (sign : List ℕ) → Visit → List ℕ
change_text sign v = sign ++ (codes " " ++ visit_text v)

-- A text as a line of its own.
abbrev pub ended : List ℕ → List ℕ
ended text = text ++ 10 ∷ []

-- The lines of the changes with one sign, in order.
abbrev pub changes_text : (sign : List ℕ) → List Visit → List ℕ
changes_text sign vs = flat_map (λ v. ended (change_text sign v)) vs

-- What is printed for a command: what is retracted, with a minus, then what is added, with a plus; or the refusal.
unfoldable pub outcome_text : Outcome → List ℕ
outcome_text (changed gone new) = changes_text (codes "-") gone ++ changes_text (codes "+") new
outcome_text (refused r) = ended (refusal_text r)

unfoldable pub ledger_text : List Line → List ℕ
ledger_text ls = flat_map (λ l. ended (line_text l)) ls

-- Why a command is not written.
abbrev pub encode_error_text : EncodeError → List ℕ
encode_error_text TooLarge = codes "a number too large for its bytes"
encode_error_text OutOfMemory = codes "out of memory"

-- Why a file is not done.
abbrev pub file_error_text : FileError → List ℕ
file_error_text TooShort = codes "the file is shorter than its terms (24 bytes)"
file_error_text NoMemory = codes "memory allocation failed"
