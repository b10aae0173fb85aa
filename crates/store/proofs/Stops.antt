-- What is left to ask of a command after each check.
use Rattle.std.proofs.Common.{◌≡◌, ℕ, true, List, [], ◌∷◌, Ok, Err, Option, Result, sym, ap, ◌∙◌}
use Rattle.command.specs.declared.Command.{Command}
use Rattle.command.specs.declared.Refusal.{Refusal}
use Rattle.command.specs.Bounds.{terms_fault}
use Rattle.command.specs.Cells.{command_in, read_command, row_fault}
use Rattle.model.specs.Store.{Store, draft}
use Rattle.store.specs.declared.capacity.Capacity.{Capacity}
use Rattle.store.specs.declared.checks.Ready.{Ready}
use Rattle.store.specs.declared.header.Header.{Header}
use Rattle.store.specs.declared.view.View.{View}
use Rattle.store.specs.Checks.{checked, refusal_of, sound_row}
use Rattle.store.specs.Contents.{header_in, store_in}
use Rattle.store.specs.Faults.{first_fault, out_fault, room_fault, store_faults, watermark_fault}
use Rattle.store.specs.Views.{Shows, header_seen, store_seen}
use Rattle.store.proofs.Bounds.{none_by}
use Rattle.store.proofs.Places.{fault_stands, no_fault, none_found, passed, past}
use Rattle.store.proofs.Views.{store_shown}

module _ (cap : Capacity) (xs cs : List ℕ) (out : ℕ) (v : View) (sound : sound_row xs ≡ true) (shows : Shows v xs) where
  abbrev of_clock : Header → List (Option Refusal)
  of_clock h = terms_fault h.clock.terms ∷ watermark_fault h.clock.watermark ∷ []

  abbrev of_rest : Header → Store → Command → Result Ready Refusal
  of_rest h s k =
      first_fault (out_fault out ∷ room_fault cap h s k ∷ refusal_of (draft h.clock.terms s k) ∷ []) (Ok (record { header = h; command = k }))

  abbrev of_row : Header → Store → Result Ready Refusal
  of_row h s = first_fault (row_fault cs ∷ []) (of_rest h s (command_in cs))

  from_store : checked cap xs cs out ≡ first_fault (of_clock (header_seen v)) (of_row (header_seen v) (store_seen v))
  unfolding checked
  from_store =
      none_found (store_faults xs) (first_fault (of_clock (header_in xs)) (of_row (header_in xs) (store_in xs))) (none_by xs sound)
      ∙ ap (λ (h : Header). first_fault (of_clock h) (of_row h (store_in xs))) (sym shows.header)
      ∙ ap (λ (s : Store). first_fault (of_clock (header_seen v)) (of_row (header_seen v) s)) (sym (store_shown shows))

  pub at_clock : (r : Refusal) → Err r ≡ first_fault (of_clock (header_seen v)) (Ok (tt {0})) → checked cap xs cs out ≡ Err r
  at_clock r e = from_store ∙ fault_stands (of_clock (header_seen v)) (tt {0}) (of_row (header_seen v) (store_seen v)) r (sym e)

  module _ (clock : Ok (tt {0}) ≡ first_fault (of_clock (header_seen v)) (Ok (tt {0}))) where
    pub from_clock : checked cap xs cs out ≡ of_row (header_seen v) (store_seen v)
    from_clock = from_store ∙ none_found (of_clock (header_seen v)) (of_row (header_seen v) (store_seen v)) (no_fault (of_clock (header_seen v)) (tt {0}) tt (sym clock))

    pub from_command : (k : Command) → Ok k ≡ read_command cs → checked cap xs cs out ≡ of_rest (header_seen v) (store_seen v) k
    from_command k reads =
        from_clock ∙ past (row_fault cs) (command_in cs) k (of_rest (header_seen v) (store_seen v) (command_in cs)) reads
        ∙ ap (λ (j : Command). of_rest (header_seen v) (store_seen v) j) (passed (row_fault cs) (command_in cs) k reads)
