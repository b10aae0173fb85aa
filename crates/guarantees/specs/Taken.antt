-- What was taken in, by what the calls were answered, and the visits that it makes.
use Rattle.std.specs.Prelude.{Ok, Err, ◌≡◌, ℕ, ◌+◌, leb, List, [], ◌∷◌, filter}
use Rattle.visit.specs.declared.Reading.{Reading}
use Rattle.visit.specs.declared.Terms.{Terms}
use Rattle.visit.specs.Readings.{gap_of}
use Rattle.command.specs.declared.Command.{Command}
use Rattle.command.specs.declared.Command.TheVariants.{Reading as AReading, Watermark}
use Rattle.command.specs.Cells.{command_in}
use Rattle.command.specs.Numbers.{Reply}
use Rattle.model.specs.Reference.{Reference, closed_of}
use Rattle.model.specs.Right.{Right}
use Rattle.model.specs.Sessions.{insert_reading, visits}
use Rattle.store.specs.Contents.{empty_row, header_in, store_in}
use Rattle.guarantees.specs.AnyTime.{reference_now, row_now}
use Rattle.guarantees.specs.Calls.{Call, answer}
use Rattle.guarantees.specs.Following.{visits_followed}

-- The readings of the calls that are done, each put at its place in the order.
abbrev pub taken_by : Terms → Command → Reply → List Reading → List Reading
taken_by t (AReading e) (Ok n) es = insert_reading t e es
taken_by t (AReading e) (Err r) es = es
taken_by t (Watermark m) r es = es

abbrev pub taken_left : Terms → List Reading → List ℕ → List Call → List Reading
taken_left t es xs [] = es
taken_left t es xs (c ∷ cs) = taken_left t (taken_by t (command_in c.command) (answer xs c).reply es) (answer xs c).store cs

-- These readings, and the watermark in the row.
abbrev pub taken_now : Terms → List ℕ → List Call → Reference
taken_now t xs calls =
    record { readings = taken_left t [] (empty_row t xs) calls; watermark = (header_in (row_now t xs calls)).clock.watermark }

-- This is what the reference has. The visits of the readings are right: each reading is of just one, they are unbroken and apart, and have the count
-- and the sum of their readings. The row has those of them that the watermark is at most gap and lateness past, and one who follows `out` has those
-- that are closed.
pub record RightRow (t : Terms) (k : Reference) (xs : List ℕ) (calls : List Call) : Type 0 where
  pub reference : reference_now t xs calls ≡ k
  pub right : Right t k.readings (visits t k.readings)
  pub live : (store_in (row_now t xs calls)).live ≡ filter (λ v. leb k.watermark (v.to + gap_of t v.card + t.lateness)) (visits t k.readings)
  pub closed : visits_followed t xs calls ≡ closed_of t k

abbrev pub RowVisitsRight : Type 0
RowVisitsRight = (t : Terms) (xs : List ℕ) (calls : List Call) → RightRow t (taken_now t xs calls) xs calls
