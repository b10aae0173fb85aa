-- What a store in a row of numbers makes of commands.
use Rattle.std.specs.Prelude.{ℕ, min, cond, List, [], length, nat_lt}
use Rattle.visit.specs.declared.Line.{Line}
use Rattle.command.specs.declared.Command.{Command}
use Rattle.command.specs.Cells.{command_cells}
use Rattle.command.specs.Outcomes.{Outcome}
use Rattle.rows.specs.Lines.{lines_in}
use Rattle.store.specs.declared.capacity.Capacity.{Capacity}
use Rattle.store.specs.Applied.{outcome_in, row_by}
use Rattle.store.specs.Contents.{header_in}
use Rattle.store.specs.Faults.{verdict}
use Rattle.store.specs.Layout.{lines_room, store_size}
use Rattle.store.specs.Parts.{parts}

-- What a store in the row xs makes of a command, where `out` has n numbers: the outcome, and the row after it.
abbrev pub outcome_to : Capacity → List ℕ → ℕ → Command → Outcome
outcome_to cap xs n c = outcome_in xs (verdict cap xs (command_cells c) n)

abbrev pub row_then : Capacity → List ℕ → ℕ → Command → List ℕ
row_then cap xs n c = row_by xs (verdict cap xs (command_cells c) n)

-- The lines that stand in a row, of which there is room for so many; none if the row is too short for a store.
abbrev pub lines_shown : List ℕ → List Line
lines_shown xs = cond (nat_lt (length xs) store_size) [] (lines_in (min (header_in xs).lines lines_room) (parts xs).lines)
