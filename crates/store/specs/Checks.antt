-- What the code checks before it changes anything, and what it then knows.
use Rattle.std.specs.Prelude.{ℕ, Bool, true, false, List, [], ◌∷◌, ◌++◌, Some, None, Ok, Err, Option, Result}
use Rattle.command.specs.declared.Refusal.{Refusal}
use Rattle.command.specs.Cells.{command_in}
use Rattle.model.specs.Store.{draft}
use Rattle.store.specs.declared.capacity.Capacity.{Capacity}
use Rattle.store.specs.declared.checks.Ready.{Ready}
use Rattle.store.specs.declared.header.Header.{Header}
use Rattle.store.specs.Contents.{header_in, store_in, terms_in}
use Rattle.store.specs.Faults.{faults, first_fault, store_faults}

abbrev pub refusal_of : {X : Type 0} → Result X Refusal → Option Refusal
refusal_of (Ok x) = None
refusal_of (Err r) = Some r

abbrev pub is_ok : {X : Type 0} → Result X Refusal → Bool
is_ok (Ok x) = true
is_ok (Err r) = false

-- 1: the header of a row that is a store.
abbrev pub sound_header : List ℕ → Result Header Refusal
sound_header xs = first_fault (store_faults xs) (Ok (header_in xs))

abbrev pub sound_row : List ℕ → Bool
sound_row xs = is_ok (sound_header xs)

-- 4 to 6, from the draft.
abbrev pub rule_fault : (store command : List ℕ) → Option Refusal
rule_fault xs cs = refusal_of (draft (terms_in xs) (store_in xs) (command_in cs))

-- All of them, in their order; a store and a command that pass are handed on.
unfoldable pub checked : Capacity → (store command : List ℕ) (out : ℕ) → Result Ready Refusal
checked cap xs cs out =
    first_fault (faults cap xs cs out ++ (rule_fault xs cs ∷ [])) (Ok (record { header = header_in xs; command = command_in cs }))
