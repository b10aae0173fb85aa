-- A command as a row of numbers: a kind and four numbers, 0 for a reading; 1 for a watermark, of which only the first number is looked at.
use Rattle.std.specs.Prelude.{ℕ, Bool, cond, ◌||◌, List, [], ◌∷◌, length, drop, Some, Option, Result, ◌==◌, nat_lt, slice_index}
use Rattle.visit.specs.Cells.{reading_cells, reading_made}
use Rattle.command.specs.declared.Command.{Command}
use Rattle.command.specs.declared.Command.TheVariants.{Reading as AReading, Watermark}
use Rattle.command.specs.declared.Refusal.{Refusal}
use Rattle.command.specs.declared.Refusal.TheVariants.{BadCommand}
use Rattle.command.specs.Bounds.{command_fault, unless}

abbrev pub command_width : ℕ
command_width = 5

abbrev pub known_kind : ℕ → Bool
known_kind k = k == 0 || k == 1

abbrev pub command_of : ℕ → List ℕ → Command
command_of k xs = cond (k == 0) (AReading (reading_made xs)) (Watermark (slice_index xs 0))

abbrev pub command_in : List ℕ → Command
command_in cs = command_of (slice_index cs 0) (drop 1 cs)

-- Too few numbers, an unknown kind, or a number out of its bounds.
abbrev pub row_fault : List ℕ → Option Refusal
row_fault cs =
    cond (nat_lt (length cs) command_width) (Some (BadCommand (length cs)))
    (cond (known_kind (slice_index cs 0)) (command_fault (command_in cs)) (Some (BadCommand 0)))

abbrev pub read_command : List ℕ → Result Command Refusal
read_command cs = unless (row_fault cs) (command_in cs)

-- The row of a command.
abbrev pub command_cells : Command → List ℕ
command_cells (AReading e) = 0 ∷ reading_cells e
command_cells (Watermark m) = 1 ∷ m ∷ 0 ∷ 0 ∷ 0 ∷ []
