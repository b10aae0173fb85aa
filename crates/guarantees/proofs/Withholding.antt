-- A call is withheld from the reference just if something is wrong with the store, or only room is wanting.
use Rattle.std.proofs.Common.{◌≡◌, ℕ, false, List, None, sym, refl, ap, ◌∙◌, ⊎_elim}
use Rattle.std.specs.List.{AllByRecursion}
use Rattle.std.proofs.lemmas.Bool.{true≢false}
use Rattle.visit.specs.declared.Terms.{Terms}
use Rattle.model.specs.Reference.{Reference}
use Rattle.model.proofs.Mirror.{image}
use Rattle.store.specs.Applied.{Applied}
use Rattle.store.specs.Contents.{header_of}
use Rattle.command.specs.Cells.{command_in}
use Rattle.store.specs.Faults.{room_fault, store_faults}
use Rattle.guarantees.specs.Calls.{Call, answer}
use Rattle.guarantees.specs.Faithful.{call_faults, withheld}
use Rattle.guarantees.specs.Rows.{clean_row}
use Rattle.guarantees.proofs.Moments.{withheld_is}
use Rattle.guarantees.proofs.Refusing.{IsBadStore, IsFull, room_only, store_only, which_comes}
use Rattle.guarantees.proofs.Standing.{Heard, Standing, Withheld, bad_store, no_room_left, one_call}

-- Nothing is wrong with the store, and if nothing is wrong with the call, there is room for its command.
pub record Open (t : Terms) (k : Reference) (rest : List ℕ) (c : Call) : Type 0 where
  pub sound : AllByRecursion (λ f. f ≡ None) (store_faults (clean_row t (image t k) rest))
  pub free : AllByRecursion (λ f. f ≡ None) (call_faults t c) → room_fault c.capacity (header_of t (image t k)) (image t k) (command_in c.command) ≡ None

module _ (t : Terms) (k : Reference) (s : Standing t k) (rest : List ℕ) (c : Call) where
  abbrev the_answer : Applied
  the_answer = answer (clean_row t (image t k) rest) c

  not_withheld : withheld the_answer.reply ≡ false → Withheld t k rest c → ⊥
  not_withheld h w = true≢false (sym w.unheard ∙ sym (ap (λ (a : Applied). withheld a.reply) w.answered) ∙ h)

  pub heard_open : withheld the_answer.reply ≡ false → Open t k rest c
  heard_open h =
      ⊎_elim
      (λ sound. record {
        sound = sound;
        free = λ fine.
            ⊎_elim (λ free. free) (λ f. absurd (not_withheld h (no_room_left t k s rest c sound fine f)))
            (room_only IsFull (λ n. (n, refl)) c.capacity (header_of t (image t k)) (image t k) (command_in c.command));
      })
      (λ b. absurd (not_withheld h (bad_store t k s rest c b)))
      (which_comes IsBadStore (store_faults (clean_row t (image t k) rest)) (store_only IsBadStore (λ n. (n, refl)) (clean_row t (image t k) rest)))

  pub open_heard : Open t k rest c → withheld the_answer.reply ≡ false
  open_heard o =
      ⊎_elim
      (λ (h : Heard t k rest c). ap (λ (a : Applied). withheld a.reply) h.answered ∙ h.heard)
      (λ (w : Withheld t k rest c). absurd (⊎_elim (λ one. w.bad one o.sound) (λ seven. w.no_room seven (o.free (w.full seven))) (withheld_is w.refusal w.unheard)))
      (one_call t k s rest c)
