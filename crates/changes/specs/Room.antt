-- How much of `out` is needed.
use Rattle.std.specs.Prelude.{◌≡◌, ℕ, ◌+◌, ◌*◌, ◌≤◌, List, length}
use Rattle.visit.specs.declared.Terms.{Terms}
use Rattle.visit.specs.declared.Visit.{Visit}
use Rattle.command.specs.declared.Command.{Command}
use Rattle.command.specs.declared.Command.TheVariants.{Reading as AReading, Watermark}
use Rattle.command.specs.Outcomes.{changed}
use Rattle.rows.specs.Visits.{visit_width}
use Rattle.model.specs.Store.{Store, store_outcome}
use Rattle.rows.specs.Out.{out_head}
use Rattle.changes.specs.Out.{change_row}

-- A store has room for so many live visits.
abbrev pub live_most : ℕ
live_most = 1024

-- A reading is near to two visits at most where these are apart.
abbrev pub near_most : ℕ
near_most = 2

-- `out` has room for so many visits, and so for so many numbers.
abbrev pub out_visits : ℕ
out_visits = near_most + live_most

abbrev pub out_width : ℕ
out_width = out_head + out_visits * visit_width

-- The most that a command retracts and adds among n live visits, whatever they are.
abbrev pub most_retracted : Command → ℕ → ℕ
most_retracted (AReading e) n = n
most_retracted (Watermark m) n = 0

abbrev pub most_added : Command → ℕ → ℕ
most_added (AReading e) n = 1
most_added (Watermark m) n = n

-- No command needs more of `out` than that, and a store within its room never more than `out` has to have.
pub record Fits (c : Command) (n : ℕ) (gone new : List Visit) : Type 0 where
  pub retracted : length gone ≤ most_retracted c n
  pub added : length new ≤ most_added c n
  pub out : n ≤ live_most → length (change_row gone new) ≤ out_width

abbrev pub OutSuffices : Type 0
OutSuffices =
    (t : Terms) (s : Store) (c : Command) (gone new : List Visit)
    → store_outcome t s c ≡ changed gone new → Fits c (length s.live) gone new
