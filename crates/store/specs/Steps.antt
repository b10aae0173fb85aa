-- A command step by step: what it drafts, and then its end.
use Rattle.std.specs.Prelude.{◌≡◌, ℕ, ◌+◌, ◌<◌, ◌≤◌, false, List, length}
use Rattle.visit.specs.declared.Clock.{Clock}
use Rattle.visit.specs.declared.Line.{Line}
use Rattle.visit.specs.declared.Reading.{Reading}
use Rattle.visit.specs.declared.Terms.{Terms}
use Rattle.visit.specs.declared.Visit.{Visit}
use Rattle.visit.specs.Readings.{too_late}
use Rattle.visit.specs.Sums.{SumsFit, sums}
use Rattle.visit.specs.Visits.{single}
use Rattle.command.specs.declared.Command.{Command}
use Rattle.command.specs.declared.Command.TheVariants.{Reading as AReading, Watermark}
use Rattle.command.specs.Outcomes.{Outcome}
use Rattle.model.specs.Sessions.{changes, difference, insert_reading}
use Rattle.model.specs.Store.{Draft, Store, closed_after, finish, merge_in}
use Rattle.changes.specs.Out.{OutAfter}
use Rattle.ledger.specs.Fits.{Fits}
use Rattle.rows.specs.declared.row.Row.{Ghosts}
use Rattle.rows.specs.declared.table.Table.{Table}
use Rattle.rows.specs.Tables.{rows_of}
use Rattle.store.specs.declared.checks.Ready.{Ready}
use Rattle.store.specs.declared.header.Header.{Header}
use Rattle.store.specs.Contents.{parts_after, store_of}
use Rattle.store.specs.Header.{Counted}
use Rattle.store.specs.Layout.{lines_room, readings_room, visits_room}
use Rattle.store.specs.Parts.{Parts}

-- Visits, readings and watermark as they stand in a store, and in tables.
abbrev pub before : Store → Draft
before s = record { live = s.live; seen = s.seen; watermark = s.watermark }

abbrev pub standing : {v : Ghosts Visit} {r : Ghosts Reading} → Clock → Table Visit v → Table Reading r → Draft
standing k vs es = record { live = rows_of vs; seen = rows_of es; watermark = k.watermark }

-- What a command that is not refused makes of them.
abbrev pub draft_of : Terms → Draft → Command → Draft
draft_of t b (AReading e) = record { live = merge_in t (single e) b.live; seen = insert_reading t e b.seen; watermark = b.watermark }
draft_of t b (Watermark m) = record { live = b.live; seen = b.seen; watermark = m }

abbrev pub clock_by : Clock → Command → Clock
clock_by k (AReading e) = k
clock_by k (Watermark m) = record { terms = k.terms; watermark = m }

-- What it changes.
abbrev pub changes_of : Terms → Draft → Command → Outcome
changes_of t b c = changes t (closed_after t b) (closed_after t (draft_of t b c))

abbrev pub gone_of : Terms → Draft → Command → List Visit
gone_of t b c = difference t (closed_after t b) (closed_after t (draft_of t b c))

abbrev pub new_of : Terms → Draft → Command → List Visit
new_of t b c = difference t (closed_after t (draft_of t b c)) (closed_after t b)

-- What a command needs, so that it can be drafted: room for a visit and for a reading that is not too late, and sums that fit in 64 bits;
-- a watermark does not go back.
abbrev pub Draftable : (visit_room reading_room : Type 0) → Terms → Draft → Command → Type 0
Draftable v r t b (AReading e) = v × r × (too_late t b.watermark e ≡ false) × SumsFit b.live 1 e.amount
Draftable v r t b (Watermark m) = b.watermark ≤ m

-- And so that it can be finished.
pub record Performable (h : Header) (s : Store) (c : Command) : Type 0 where
  pub counts : Counted h
  pub draftable : Draftable (h.visits < visits_room) (h.readings < readings_room) h.clock.terms (before s) c
  pub visits : length (draft_of h.clock.terms (before s) c).live ≤ visits_room
  pub readings : length (draft_of h.clock.terms (before s) c).seen ≤ readings_room
  pub lines : h.lines + length (new_of h.clock.terms (before s) c) ≤ lines_room
  pub fits : Fits (length (new_of h.clock.terms (before s) c)) (sums (new_of h.clock.terms (before s) c)) s.ledger

-- The header of tables.
abbrev pub tables_header : {v : Ghosts Visit} {r : Ghosts Reading} {l : Ghosts Line} → Clock → Table Visit v → Table Reading r → Table Line l → Header
tables_header k vs es ls = record { clock = k; visits = vs.len; readings = es.len; lines = ls.len }

-- A command carried out in the parts of a row.
module _ (q : Ready) (p : Parts) where
  abbrev pub draft_in : Draft
  draft_in = draft_of q.header.clock.terms (before (store_of q.header p)) q.command

  abbrev pub changes_in : Outcome
  changes_in = changes_of q.header.clock.terms (before (store_of q.header p)) q.command

  pub record Performed (after : Parts) (many : ℕ) (was row : List ℕ) : Type 0 where
    pub parts : after ≡ parts_after q.header draft_in (finish q.header.clock.terms (store_of q.header p) draft_in) p
    pub out : OutAfter changes_in many was row
