-- How commands and refusals are written.
use Rattle.std.specs.Prelude.{ℕ, List, ◌++◌, codes, decimal}
use Rattle.visit.specs.Text.{reading_text}
use Rattle.command.specs.declared.Command.{Command}
use Rattle.command.specs.declared.Command.TheVariants.{Reading, Watermark}
use Rattle.command.specs.declared.Refusal.{Refusal}
use Rattle.command.specs.Numbers.{number, place}

-- A line without its newline.
abbrev pub command_line : Command → List ℕ
command_line (Reading e) = codes "reading " ++ reading_text e
command_line (Watermark m) = codes "watermark " ++ decimal m

abbrev pub refusal_text : Refusal → List ℕ
refusal_text r = codes "refused " ++ (decimal (number r) ++ (codes " at " ++ decimal (place r)))
