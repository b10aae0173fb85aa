-- What holds at any time: after any calls, on a row that began as an empty store.
use Rattle.std.specs.Prelude.{Err, ◌≡◌, ℕ, ◌+◌, ◌^◌, ◌<◌, ◌≤◌, min, List, length, drop, Some, sum_by, ◌≢◌}
use Rattle.visit.specs.declared.Reading.{Reading}
use Rattle.visit.specs.declared.Terms.{Terms}
use Rattle.command.specs.declared.Command.TheVariants.{Reading as AReading, Watermark}
use Rattle.command.specs.declared.Refusal.{Refusal}
use Rattle.command.specs.Bounds.{terms_fault}
use Rattle.command.specs.Numbers.{reply_number}
use Rattle.model.specs.Kept.{Holds}
use Rattle.model.specs.Order.{SameTaken}
use Rattle.model.specs.Reference.{Reference, empty, ledger_of}
use Rattle.rows.specs.Limits.{count_limit, sum_limit}
use Rattle.store.specs.Contents.{empty_row, header_in, store_in}
use Rattle.command.specs.Cells.{command_in}
use Rattle.store.specs.Layout.{lines_room, readings_room, store_size, visits_room}
use Rattle.guarantees.specs.Calls.{Call, answer, row_left}
use Rattle.guarantees.specs.Faithful.{reference_left}
use Rattle.guarantees.specs.Rows.{Fits, clean_row}

-- The row and the reference after these calls, from an empty store on.
abbrev pub row_now : Terms → List ℕ → List Call → List ℕ
row_now t xs calls = row_left (empty_row t xs) calls

abbrev pub reference_now : Terms → List ℕ → List Call → Reference
reference_now t xs calls = reference_left t empty (empty_row t xs) calls

-- A row holds what stands for a reference, and nothing else: the live visits and the readings that could come again, the ledger, no more than there
-- is room for, and behind each table's rows only 0. In `kept`, `Holds` of model/specs/Kept says it by times: the rows of live visits are, as a list,
-- the reference's visits that the watermark is at most gap and lateness past, and no more than there are readings taken at most gap and lateness
-- behind it; the rows of readings are, as a list, those taken at most lateness behind it.
pub record StandsFor (t : Terms) (k : Reference) (rest xs : List ℕ) : Type 0 where
  pub kept : Holds t (store_in xs) k
  pub ledger : (store_in xs).ledger ≡ ledger_of t k
  pub room : Fits (store_in xs)
  pub clean : xs ≡ clean_row t (store_in xs) rest

abbrev pub RowStands : Type 0
RowStands = (t : Terms) (xs : List ℕ) (calls : List Call) → StandsFor t (reference_now t xs calls) (drop store_size xs) (row_now t xs calls)

-- The same readings taken in and the same watermark: the same row, number for number, in whatever order and by whatever calls.
abbrev pub AnyOrderSameRow : Type 0
AnyOrderSameRow =
    (t : Terms) (xs : List ℕ) (cs ds : List Call) → SameTaken (reference_now t xs cs) (reference_now t xs ds) → row_now t xs cs ≡ row_now t xs ds

-- While the readings taken in are fewer than 2^40 and their amounts total less than 2^52, no call is refused with 1.
abbrev pub StoreSound : Type 0
StoreSound =
    (t : Terms) (xs : List ℕ) (before : List Call) (c : Call)
    → length (reference_now t xs before).readings < count_limit → sum_by (λ e. e.amount) (reference_now t xs before).readings < sum_limit
    → reply_number (answer (row_now t xs before) c).reply ≢ 1

-- So it is for the first 2^20 calls and one more, whatever they ask.
abbrev pub FirstCallsSound : Type 0
FirstCallsSound =
    (t : Terms) (xs : List ℕ) (before : List Call) (c : Call) → length before ≤ 2 ^ 20 → reply_number (answer (row_now t xs before) c).reply ≢ 1

-- A watermark is never refused for want of room.
abbrev pub WatermarkHasRoom : Type 0
WatermarkHasRoom =
    (t : Terms) (xs : List ℕ) (before : List Call) (c : Call) (m : ℕ)
    → command_in c.command ≡ Watermark m → reply_number (answer (row_now t xs before) c).reply ≢ 7

-- Nor is a reading while there are fewer live visits and kept readings than capacity and layout allow, and fewer live visits and lines than the layout
-- has lines.
abbrev pub ReadingHasRoom : Type 0
ReadingHasRoom =
    (t : Terms) (xs : List ℕ) (before : List Call) (c : Call) (e : Reading)
    → command_in c.command ≡ AReading e
    → (header_in (row_now t xs before)).visits < min c.capacity.visits visits_room
    → (header_in (row_now t xs before)).readings < min c.capacity.readings readings_room
    → (header_in (row_now t xs before)).lines + (header_in (row_now t xs before)).visits < lines_room
    → reply_number (answer (row_now t xs before) c).reply ≢ 7

-- With terms out of bounds every call is refused for them.
abbrev pub BadTermsRefused : Type 0
BadTermsRefused =
    (t : Terms) (xs : List ℕ) (before : List Call) (c : Call) (r : Refusal) → terms_fault t ≡ Some r → (answer (row_now t xs before) c).reply ≡ Err r
