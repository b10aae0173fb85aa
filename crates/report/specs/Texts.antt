-- The text of a list of commands: of each outcome, then of the ledger.
use Rattle.std.specs.Prelude.{ℕ, List, [], ◌∷◌, ◌++◌, replicate}
use Rattle.std.specs.List.{flat_map}
use Rattle.visit.specs.declared.Line.{Line}
use Rattle.visit.specs.declared.Terms.{Terms}
use Rattle.command.specs.declared.Command.{Command}
use Rattle.command.specs.Outcomes.{Outcome}
use Rattle.model.specs.Reference.{Reference, bounded_after, bounded_outcomes, empty, ledger_of}
use Rattle.changes.specs.Room.{out_width}
use Rattle.store.specs.declared.capacity.Capacity.{Capacity}
use Rattle.store.specs.Contents.{empty_row}
use Rattle.store.specs.Layout.{store_size}
use Rattle.owned.specs.Rows.{lines_shown, outcome_to, row_then}
use Rattle.feed.specs.Text.{ledger_text, outcome_text}

abbrev pub text_of : List Outcome → List Line → List ℕ
text_of outcomes lines = flat_map outcome_text outcomes ++ ledger_text lines

-- By a store in the row xs, where `out` has n numbers, and from an empty store on.
abbrev pub store_prints : Capacity → ℕ → List ℕ → List Command → List ℕ
store_prints cap n xs [] = ledger_text (lines_shown xs)
store_prints cap n xs (c ∷ cs) = outcome_text (outcome_to cap xs n c) ++ store_prints cap n (row_then cap xs n c) cs

abbrev pub settle_text : Capacity → Terms → List Command → List ℕ
settle_text cap t cs = store_prints cap out_width (empty_row t (replicate store_size 0)) cs

-- By the reference, from any state, and from the beginning.
abbrev pub reference_prints : Terms → Reference → List Command → List ℕ
reference_prints t k cs = text_of (bounded_outcomes t k cs) (ledger_of t (bounded_after t k cs))

abbrev pub recompute_text : Terms → List Command → List ℕ
recompute_text t cs = reference_prints t empty cs
