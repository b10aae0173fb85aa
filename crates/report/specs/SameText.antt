-- What a store prints, compared with what recomputing prints.
use Rattle.std.specs.Prelude.{◌≡◌, ℕ, Bool, false, cond, List, [], ◌∷◌, ◌++◌, replicate}
use Rattle.std.specs.List.{flat_map, AllByRecursion}
use Rattle.visit.specs.declared.Terms.{Terms}
use Rattle.command.specs.declared.Command.{Command}
use Rattle.command.specs.Outcomes.{Outcome, reply_of}
use Rattle.changes.specs.Room.{out_width}
use Rattle.store.specs.declared.capacity.Capacity.{Capacity}
use Rattle.store.specs.Contents.{empty_row}
use Rattle.store.specs.Layout.{store_size}
use Rattle.guarantees.specs.Faithful.{withheld}
use Rattle.owned.specs.Rows.{lines_shown, outcome_to, row_then}
use Rattle.feed.specs.Text.{ledger_text, outcome_text}
use Rattle.report.specs.Texts.{recompute_text, settle_text}

-- A command is withheld if it is refused with 1 or 7: for a number past its bound in the store, or for want of room.
abbrev pub withheld_outcome : Outcome → Bool
withheld_outcome o = withheld (reply_of o)

-- The outcomes of commands by a store in the row xs, where `out` has n numbers, and from an empty store on.
abbrev pub store_outcomes : Capacity → ℕ → List ℕ → List Command → List Outcome
store_outcomes cap n xs [] = []
store_outcomes cap n xs (c ∷ cs) = outcome_to cap xs n c ∷ store_outcomes cap n (row_then cap xs n c) cs

abbrev pub settle_outcomes : Capacity → Terms → List Command → List Outcome
settle_outcomes cap t cs = store_outcomes cap out_width (empty_row t (replicate store_size 0)) cs

-- No command is withheld.
abbrev pub NoneWithheld : Capacity → Terms → List Command → Type 0
NoneWithheld cap t cs = AllByRecursion (λ o. withheld_outcome o ≡ false) (settle_outcomes cap t cs)

-- Then the whole text, every outcome and the ledger, is the one that recomputing prints.
abbrev pub SameText : Type 0
SameText = (cap : Capacity) (t : Terms) (cs : List Command) → NoneWithheld cap t cs → settle_text cap t cs ≡ recompute_text t cs

-- The commands that are not withheld.
abbrev pub store_heard : Capacity → ℕ → List ℕ → List Command → List Command
store_heard cap n xs [] = []
store_heard cap n xs (c ∷ cs) =
    cond (withheld_outcome (outcome_to cap xs n c)) (store_heard cap n (row_then cap xs n c) cs) (c ∷ store_heard cap n (row_then cap xs n c) cs)

abbrev pub heard_commands : Capacity → Terms → List Command → List Command
heard_commands cap t cs = store_heard cap out_width (empty_row t (replicate store_size 0)) cs

-- The text without the lines of the refusals 1 and 7.
abbrev pub store_prints_heard : Capacity → ℕ → List ℕ → List Command → List ℕ
store_prints_heard cap n xs [] = ledger_text (lines_shown xs)
store_prints_heard cap n xs (c ∷ cs) =
    cond (withheld_outcome (outcome_to cap xs n c)) [] (outcome_text (outcome_to cap xs n c)) ++ store_prints_heard cap n (row_then cap xs n c) cs

abbrev pub heard_text : Capacity → Terms → List Command → List ℕ
heard_text cap t cs = store_prints_heard cap out_width (empty_row t (replicate store_size 0)) cs

-- Whatever is withheld: without it, the text is the one that recomputing prints of the file without those commands.
abbrev pub SameTextHeard : Type 0
SameTextHeard = (cap : Capacity) (t : Terms) (cs : List Command) → heard_text cap t cs ≡ recompute_text t (heard_commands cap t cs)

-- The outcomes before the first that is withheld, and their lines.
abbrev pub first_heard : List Outcome → List Outcome
first_heard [] = []
first_heard (o ∷ os) = cond (withheld_outcome o) [] (o ∷ first_heard os)

abbrev pub first_lines : Capacity → Terms → List Command → List ℕ
first_lines cap t cs = flat_map outcome_text (first_heard (settle_outcomes cap t cs))

-- Both texts begin with these lines.
abbrev pub Begins : (front text : List ℕ) → Type 0
Begins front text = (rest : List ℕ) × (text ≡ front ++ rest)

abbrev pub SameBeginning : Type 0
SameBeginning =
    (cap : Capacity) (t : Terms) (cs : List Command)
    → Begins (first_lines cap t cs) (settle_text cap t cs) × Begins (first_lines cap t cs) (recompute_text t cs)
