-- A day of commands as text.
use Rattle.std.specs.Prelude.{ℕ, List, [], ◌∷◌, ◌++◌, codes, decimal}
use Rattle.std.specs.List.{flat_map}
use Rattle.visit.specs.declared.Terms.{Terms}
use Rattle.days.specs.declared.BadLine.{BadLine}
use Rattle.days.specs.declared.ParseError.{ParseError}
use Rattle.days.specs.declared.ParseError.TheVariants.{Bad, NoMemory}
use Rattle.days.specs.declared.Reason.{Reason}
use Rattle.days.specs.declared.Reason.TheVariants.{NoTerms, NoCommand, WrongCount, NotNumber, TooLarge}
use Rattle.command.specs.declared.Command.{Command}
use Rattle.command.specs.declared.Command.TheVariants.{Reading, Watermark}

abbrev pub reason_text : Reason → List ℕ
reason_text NoTerms = codes "the first line must be terms GAP LATENESS DAY"
reason_text NoCommand = codes "expected reading or watermark"
reason_text WrongCount = codes "wrong number of words"
reason_text NotNumber = codes "not a number"
reason_text TooLarge = codes "number too large"

-- `line N: REASON`
abbrev pub bad_line_text : BadLine → List ℕ
bad_line_text b = codes "line " ++ (decimal b.line ++ (codes ": " ++ reason_text b.reason))

abbrev pub parse_error_text : ParseError → List ℕ
parse_error_text (Bad b) = bad_line_text b
parse_error_text NoMemory = codes "out of memory"

-- Words with single spaces between them.
abbrev pub spaced : List (List ℕ) → List ℕ
spaced [] = []
spaced (w ∷ []) = w
spaced (w ∷ v ∷ ws) = w ++ (32 ∷ spaced (v ∷ ws))

abbrev pub terms_words : Terms → List (List ℕ)
terms_words t = codes "terms" ∷ decimal t.gap ∷ decimal t.lateness ∷ decimal t.day ∷ []

abbrev pub command_words : Command → List (List ℕ)
command_words (Reading e) = codes "reading" ∷ decimal e.card ∷ decimal e.time ∷ decimal e.serial ∷ decimal e.amount ∷ []
command_words (Watermark m) = codes "watermark" ∷ decimal m ∷ []

-- A line of text ends with a newline.
abbrev pub terms_text : Terms → List ℕ
terms_text t = spaced (terms_words t) ++ (10 ∷ [])

abbrev pub command_text : Command → List ℕ
command_text c = spaced (command_words c) ++ (10 ∷ [])

abbrev pub day_text : Terms → List Command → List ℕ
day_text t cs = terms_text t ++ flat_map command_text cs
