-- A report of a file that comes in pieces: what is still to come of it.
use Rattle.std.specs.Prelude.{◌≡◌, ℕ, ◌+◌, List, [], ◌++◌, length}
use Rattle.command.specs.declared.Command.{Command}
use Rattle.feed.specs.Files.{commands, unread}
use Rattle.report.specs.declared.pieces.Reporting.{Reporting}

-- The text that is still to be printed if the file goes on so and then ends.
abbrev pub still_prints : {S : Type 0} → (S → List Command → List ℕ) → Reporting S → List ℕ → List ℕ
still_prints prints r more = prints r.sessions (commands (r.held.items ++ more))

-- How many bytes are left then.
abbrev pub still_unread : {S : Type 0} → Reporting S → List ℕ → ℕ
still_unread r more = unread (r.held.items ++ more)

-- From one state to another bytes are read and a text is written: however the file goes on, the whole text and how many bytes are left
-- stay the same.
pub record Continues {S : Type 0} (prints : S → List Command → List ℕ) (from : Reporting S) (read written : List ℕ) (to : Reporting S) : Type 0 where
  pub text : (more : List ℕ) → written ++ still_prints prints to more ≡ still_prints prints from (read ++ more)
  pub rest : (more : List ℕ) → still_unread to more ≡ still_unread from (read ++ more)

-- If the file goes on with these bytes, none of them is read; unless there are none, some are left already.
pub record Unreadable {S : Type 0} (prints : S → List Command → List ℕ) (r : Reporting S) (more : List ℕ) : Type 0 where
  pub text : still_prints prints r more ≡ still_prints prints r []
  pub rest : still_unread r more ≡ still_unread r [] + length more
  pub none : still_unread r [] ≡ 0 → more ≡ []
