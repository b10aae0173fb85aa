-- The outcome that comes of a reply and the row of changes.
use Rattle.std.specs.Prelude.{ℕ, ◌≤◌, List, length, Ok, Err}
use Rattle.command.specs.Numbers.{Reply}
use Rattle.command.specs.Outcomes.{Outcome, changed, refused}
use Rattle.rows.specs.Out.{gone_in, new_in, out_end, out_head}

-- After a command that was done its changes stand in the row.
abbrev pub Readable : Reply → List ℕ → Type 0
Readable (Ok n) xs = (out_head ≤ length xs) × (out_end xs ≤ length xs)
Readable (Err r) xs = Unit {0}

abbrev pub outcome_from : Reply → List ℕ → Outcome
outcome_from (Ok n) xs = changed (gone_in xs) (new_in xs)
outcome_from (Err r) xs = refused r
