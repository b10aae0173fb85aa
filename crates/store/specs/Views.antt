-- A store as it is read.
use Rattle.std.specs.Prelude.{◌≡◌, ℕ, ◌≤◌, List, [], ◌∷◌, length, Option}
use Rattle.std.specs.Option.{option_map}
use Rattle.std.specs.List.{repeat}
use Rattle.command.specs.declared.Refusal.{Refusal}
use Rattle.command.specs.declared.Refusal.TheVariants.{BadStore}
use Rattle.model.specs.Store.{Store}
use Rattle.rows.specs.Limits.{first_over}
use Rattle.rows.specs.Lines.{line_limits}
use Rattle.rows.specs.Readings.{reading_limits}
use Rattle.rows.specs.Tables.{rows_seen}
use Rattle.rows.specs.Visits.{visit_limits}
use Rattle.store.specs.declared.header.Header.{Header}
use Rattle.store.specs.declared.view.View.{View}
use Rattle.store.specs.Contents.{header_in}
use Rattle.store.specs.Header.{Counted}
use Rattle.store.specs.Layout.{lines_at, readings_at, store_size, visits_at}
use Rattle.store.specs.Parts.{parts}

-- The row is long enough, and its counts are within their rooms.
pub record Sized (xs : List ℕ) : Type 0 where
  pub size : store_size ≤ length xs
  pub counts : Counted (header_in xs)

abbrev pub header_seen : View → Header
header_seen v = record { clock = v.clock; visits = v.visits.len; readings = v.readings.len; lines = v.lines.len }

abbrev pub store_seen : View → Store
store_seen v = record { live = rows_seen v.visits; seen = rows_seen v.readings; watermark = v.clock.watermark; ledger = rows_seen v.lines }

-- The first number over its limit in each table.
abbrev pub faults_seen : View → List (Option Refusal)
faults_seen v =
    option_map BadStore (first_over visits_at (repeat v.visits.len visit_limits) v.visits.cells.now)
    ∷ option_map BadStore (first_over readings_at (repeat v.readings.len reading_limits) v.readings.cells.now)
    ∷ option_map BadStore (first_over lines_at (repeat v.lines.len line_limits) v.lines.cells.now)
    ∷ []

-- All that stands in a row is seen.
pub record Shows (v : View) (xs : List ℕ) : Type 0 where
  pub header : header_seen v ≡ header_in xs
  pub visits : v.visits.cells.now ≡ (parts xs).visits
  pub readings : v.readings.cells.now ≡ (parts xs).readings
  pub lines : v.lines.cells.now ≡ (parts xs).lines
