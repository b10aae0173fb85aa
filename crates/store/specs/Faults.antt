-- Why a command is refused before it is looked at by the store's own rules: the checks, each with its place, in their order.
use Rattle.std.specs.Prelude.{ℕ, ◌+◌, min, cond, List, [], ◌∷◌, ◌++◌, length, Some, None, Option, Result, nat_le, nat_lt}
use Rattle.std.specs.Option.{option_map}
use Rattle.std.specs.List.{repeat}
use Rattle.command.specs.declared.Command.{Command}
use Rattle.command.specs.declared.Command.TheVariants.{Reading as AReading, Watermark}
use Rattle.command.specs.declared.Refusal.{Refusal}
use Rattle.command.specs.declared.Refusal.TheVariants.{BadStore, BadTerms, Full, ShortOut}
use Rattle.visit.specs.Limits.{time_limit}
use Rattle.command.specs.Bounds.{terms_fault}
use Rattle.command.specs.Cells.{command_in, row_fault}
use Rattle.model.specs.Reference.{or_fault}
use Rattle.model.specs.Store.{Draft, Store, draft}
use Rattle.rows.specs.Limits.{first_over}
use Rattle.rows.specs.Lines.{line_limits}
use Rattle.rows.specs.Readings.{reading_limits}
use Rattle.rows.specs.Visits.{visit_limits}
use Rattle.live.specs.Tables.{open_only}
use Rattle.store.specs.declared.header.Header.{Header}
use Rattle.store.specs.declared.capacity.Capacity.{Capacity}
use Rattle.store.specs.Contents.{header_in, store_in, terms_in}
use Rattle.store.specs.Header.{header_cells, header_limits}
use Rattle.store.specs.Layout.{lines_at, lines_room, readings_at, readings_room, store_size, visits_at, visits_room}
use Rattle.changes.specs.Room.{out_width}
use Rattle.store.specs.Parts.{parts}

-- 1: the row is too short, at its length; else the first number that is over its limit, at its index: of the counts, the visits, the readings, the lines.
abbrev pub short_fault : List ℕ → Option Refusal
short_fault xs = cond (nat_lt (length xs) store_size) (Some (BadStore (length xs))) None

abbrev pub counts_fault : Header → Option Refusal
counts_fault h = option_map BadStore (first_over 0 header_limits (header_cells h))

abbrev pub visits_fault : Header → List ℕ → Option Refusal
visits_fault h xs = option_map BadStore (first_over visits_at (repeat h.visits visit_limits) (parts xs).visits)

abbrev pub readings_fault : Header → List ℕ → Option Refusal
readings_fault h xs = option_map BadStore (first_over readings_at (repeat h.readings reading_limits) (parts xs).readings)

abbrev pub lines_fault : Header → List ℕ → Option Refusal
lines_fault h xs = option_map BadStore (first_over lines_at (repeat h.lines line_limits) (parts xs).lines)

-- 2: the terms, and the watermark that stands, at 3.
abbrev pub watermark_fault : ℕ → Option Refusal
watermark_fault m = cond (nat_lt m time_limit) None (Some (BadTerms 3))

-- 8: the row for the changes is too short.
abbrev pub out_fault : ℕ → Option Refusal
out_fault n = cond (nat_lt n out_width) (Some (ShortOut n)) None

-- 7: what a command might need is not free. A reading needs a visit, a reading and a line; a watermark a line for each visit that is not closed.
abbrev pub room_fault : Capacity → Header → Store → Command → Option Refusal
room_fault cap h s (AReading e) =
    cond (nat_lt h.visits (min cap.visits visits_room))
    (cond (nat_lt h.readings (min cap.readings readings_room)) (cond (nat_lt (h.lines + h.visits) lines_room) None (Some (Full 6))) (Some (Full 5)))
    (Some (Full 4))
room_fault cap h s (Watermark m) =
    cond (nat_le (h.lines + length (open_only h.clock.terms h.clock.watermark s.live)) lines_room) None (Some (Full 6))

-- The first of several refusals, or else what comes if there is none.
abbrev pub first_fault : {X : Type 0} → List (Option Refusal) → Result X Refusal → Result X Refusal
first_fault [] r = r
first_fault (f ∷ fs) r = or_fault f (first_fault fs r)

abbrev pub table_faults : Header → List ℕ → List (Option Refusal)
table_faults h xs = visits_fault h xs ∷ readings_fault h xs ∷ lines_fault h xs ∷ []

abbrev pub store_faults : List ℕ → List (Option Refusal)
store_faults xs = short_fault xs ∷ counts_fault (header_in xs) ∷ table_faults (header_in xs) xs

-- The checks in their order: 1, 2, 3 (of the row of the command), 8, 7.
abbrev pub faults : Capacity → (store command : List ℕ) (out : ℕ) → List (Option Refusal)
faults cap xs cs out =
    store_faults xs
    ++ (terms_fault (terms_in xs) ∷ watermark_fault (header_in xs).clock.watermark ∷ row_fault cs ∷ out_fault out ∷ room_fault cap (header_in xs) (store_in xs) (command_in cs) ∷ [])

-- What a command comes to: a refusal, or what it makes of the store. Too late, duplicate and backwards come last, from the draft.
abbrev pub verdict : Capacity → (store command : List ℕ) (out : ℕ) → Result Draft Refusal
verdict cap xs cs out = first_fault (faults cap xs cs out) (draft (terms_in xs) (store_in xs) (command_in cs))
