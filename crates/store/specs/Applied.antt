-- What `apply` answers and leaves in memory, for every row of numbers.
use Rattle.std.specs.Prelude.{ℕ, List, [], ◌∷◌, length, Ok, Err, Result}
use Rattle.visit.specs.declared.Terms.{Terms}
use Rattle.command.specs.declared.Refusal.{Refusal}
use Rattle.command.specs.Numbers.{Reply}
use Rattle.command.specs.Bounds.{terms_fault}
use Rattle.command.specs.Outcomes.{Outcome, reply_of}
use Rattle.model.specs.Store.{Draft, finish, store_outcome_by}
use Rattle.store.specs.declared.capacity.Capacity.{Capacity}
use Rattle.store.specs.Contents.{empty_row, row_after, store_in, terms_in}
use Rattle.store.specs.Layout.{readings_room, visits_room}
use Rattle.store.specs.Faults.{first_fault, short_fault, verdict}
use Rattle.changes.specs.Out.{outcome_row, overlay}

pub record Applied : Type 0 where
  pub reply : Reply
  pub store : List ℕ
  pub out : List ℕ

-- The visits retracted and added, or the refusal.
abbrev pub outcome_in : List ℕ → Result Draft Refusal → Outcome
outcome_in xs v = store_outcome_by (terms_in xs) (store_in xs) v

-- The row after it; a refusal leaves it as it was.
abbrev pub row_by : List ℕ → Result Draft Refusal → List ℕ
row_by xs (Ok d) = row_after xs d (finish (terms_in xs) (store_in xs) d)
row_by xs (Err r) = xs

-- What has changed stands at the front of `out`; a refusal leaves it as it was.
abbrev pub applied_by : List ℕ → List ℕ → Result Draft Refusal → Applied
applied_by xs out v =
    record { reply = reply_of (outcome_in xs v); store = row_by xs v; out = overlay (outcome_row (outcome_in xs v)) out }

abbrev pub applied : Capacity → (store command out : List ℕ) → Applied
applied cap xs cs out = applied_by xs out (verdict cap xs cs (length out))

-- All the room that the layout has.
abbrev pub full : Capacity
full = record { visits = visits_room; readings = readings_room }

-- What `open` answers and leaves: an empty store, or a refusal and the row as it was.
abbrev pub opening : List ℕ → Terms → Result Terms Refusal
opening xs t = first_fault (short_fault xs ∷ terms_fault t ∷ []) (Ok t)

abbrev pub open_reply : Result Terms Refusal → Reply
open_reply (Ok t) = Ok 0
open_reply (Err r) = Err r

abbrev pub open_row : List ℕ → Result Terms Refusal → List ℕ
open_row xs (Ok t) = empty_row t xs
open_row xs (Err r) = xs
