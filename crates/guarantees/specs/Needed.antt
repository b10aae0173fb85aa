-- Nothing is kept in vain: each row of live visits and of kept readings is needed.
use Rattle.std.specs.Prelude.{Err, ◌≡◌, ℕ, ◌≤◌, false, List, ◌∷◌, length, None}
use Rattle.std.specs.List.{ContainsAt as Has, AllByRecursion}
use Rattle.visit.specs.declared.Reading.{Reading}
use Rattle.visit.specs.declared.Terms.{Terms}
use Rattle.visit.specs.declared.Visit.{Visit}
use Rattle.command.specs.declared.Command.TheVariants.{Reading as AReading}
use Rattle.command.specs.declared.Refusal.TheVariants.{Duplicate}
use Rattle.command.specs.Numbers.{reply_number}
use Rattle.model.specs.Kept.{ChangesVisit}
use Rattle.rows.specs.Readings.{reading_cells}
use Rattle.changes.specs.Room.{out_width}
use Rattle.store.specs.declared.capacity.Capacity.{Capacity}
use Rattle.store.specs.Contents.{store_in}
use Rattle.command.specs.Cells.{command_in}
use Rattle.guarantees.specs.AnyTime.{row_now}
use Rattle.guarantees.specs.Calls.{Call, answer}
use Rattle.guarantees.specs.Faithful.{call_faults, withheld}

-- A call hands over a reading, and nothing is wrong with the call itself: terms and numbers are within bounds, and `out` has room.
pub record HandsOver (t : Terms) (e : Reading) (c : Call) : Type 0 where
  pub reading : command_in c.command ≡ AReading e
  pub fine : AllByRecursion (λ f. f ≡ None) (call_faults t c)

-- Any call does that whose command is the kind 0 and the reading's four numbers, if only `out` has room.
abbrev pub reading_call : Reading → Capacity → List ℕ → Call
reading_call e cap out = record { capacity = cap; command = 0 ∷ reading_cells e; out = out }

abbrev pub WithinBounds : Terms → Reading → Type 0
WithinBounds t e = (cap : Capacity) (out : List ℕ) → out_width ≤ length out → HandsOver t e (reading_call e cap out)

-- A reading changes a live visit of a row. By the store's rules, room aside, it is neither too late nor a duplicate, and after it the visit is not there
-- any more; it is within bounds; and any call that hands it over is done, and the visit is then no row of the store, unless it is refused with 1 or 7.
pub record ChangesRow (t : Terms) (xs : List ℕ) (v : Visit) (e : Reading) : Type 0 where
  pub rules : ChangesVisit t (store_in xs) v e
  pub bounds : WithinBounds t e
  pub done : (c : Call) → HandsOver t e c → withheld (answer xs c).reply ≡ false → reply_number (answer xs c).reply ≡ 0
  pub gone : (c : Call) → HandsOver t e c → withheld (answer xs c).reply ≡ false → Has (store_in (answer xs c).store).live v → ⊥

abbrev pub RowMayChange : Terms → List ℕ → Visit → Type 0
RowMayChange t xs v = (e : Reading) × ChangesRow t xs v e

-- A kept reading, coming again with whatever amount, is refused with 5, unless the call is refused with 1 or 7.
abbrev pub with_amount : ℕ → Reading → Reading
with_amount n e = record { card = e.card; time = e.time; serial = e.serial; amount = n }

pub record RefusedAgain (t : Terms) (xs : List ℕ) (e : Reading) : Type 0 where
  pub bounds : WithinBounds t e
  pub again :
      (n : ℕ) (c : Call) → HandsOver t (with_amount n e) c → withheld (answer xs c).reply ≡ false
      → (answer xs c).reply ≡ Err (Duplicate e.time)

pub record AllNeeded (t : Terms) (xs : List ℕ) : Type 0 where
  pub visits : AllByRecursion (RowMayChange t xs) (store_in xs).live
  pub readings : AllByRecursion (RefusedAgain t xs) (store_in xs).seen

-- So it is after any calls from an empty store on; `StoreSound` and `ReadingHasRoom` say when neither 1 nor 7 comes. The bounds of numbers take
-- nothing away: a time up to the visit's last or the watermark, and a serial up to the number of kept readings, always do.
abbrev pub RowNothingInVain : Type 0
RowNothingInVain = (t : Terms) (xs : List ℕ) (calls : List Call) → AllNeeded t (row_now t xs calls)
