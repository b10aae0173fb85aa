-- What a command within bounds keeps so of the reference, any calls do; and what they lead to, commands alone lead to.
use Rattle.std.proofs.Common.{◌≡◌, ℕ, List, [], ◌∷◌, ◌++◌, None, Result, sym, refl, ap, ◌∙◌, subst, ⊎_elim}
use Rattle.visit.specs.declared.Terms.{Terms}
use Rattle.command.specs.declared.Command.{Command}
use Rattle.command.specs.declared.Refusal.{Refusal}
use Rattle.command.specs.Numbers.{Reply}
use Rattle.command.specs.Bounds.{command_fault}
use Rattle.model.specs.Reference.{Reference, after, empty, plan, state_by, step}
use Rattle.model.specs.Right.{Right}
use Rattle.model.specs.Sessions.{visits}
use Rattle.model.proofs.Common.{split}
use Rattle.model.proofs.Order.{SortedReadings, step_sorted}
use Rattle.model.proofs.Partition.{visits_right}
use Rattle.model.proofs.Runs.{after_append}
use Rattle.store.specs.Contents.{empty_row}
use Rattle.command.specs.Cells.{command_in}
use Rattle.guarantees.specs.AnyTime.{reference_now}
use Rattle.guarantees.specs.Calls.{Call, answer}
use Rattle.guarantees.specs.Faithful.{call_faults, next, planned, reference_left, withheld}
use Rattle.guarantees.proofs.Refusing.{OpenRefusal, call_only, first_none, sound_row, which_comes}

-- What is planned for a call is a refusal, or what its command leads to, which is then within bounds.
pub planned_by : (t : Terms) (k : Reference) (c : Call) (P : Reference → Type 0) → P k
    → (command_fault (command_in c.command) ≡ None → P (step t k (command_in c.command))) → P (state_by k (planned t k c))
planned_by t k c P h f =
    ⊎_elim
    (λ fine. subst (λ (p : Result Reference Refusal). P (state_by k p)) (sym (first_none (call_faults t c) (plan t k (command_in c.command)) fine))
    (f (sound_row c.command fine.1.0)))
    (λ b. subst (λ (p : Result Reference Refusal). P (state_by k p)) (sym (b.first _)) h)
    (which_comes OpenRefusal (call_faults t c) (call_only t c))

module _ (t : Terms) (P : Reference → Type 0) (keeps : (k : Reference) (c : Command) → command_fault c ≡ None → P k → P (step t k c)) where
  pub next_keeps : (k : Reference) (c : Call) (r : Reply) → P k → P (next t k c r)
  next_keeps k c r h = split (withheld r) (λ o. simp o h) (λ o. simp o (planned_by t k c P h (λ b. keeps k (command_in c.command) b h)))

  pub reference_keeps : (k : Reference) (xs : List ℕ) (calls : List Call) → P k → P (reference_left t k xs calls)
  reference_keeps k xs [] h = h
  reference_keeps k xs (c ∷ cs) h = reference_keeps (next t k c (answer xs c).reply) (answer xs c).store cs (next_keeps k c (answer xs c).reply h)

pub next_sorted : (t : Terms) (k : Reference) (c : Call) (r : Reply) → SortedReadings t k.readings → SortedReadings t (next t k c r).readings
next_sorted t = next_keeps t (λ k. SortedReadings t k.readings) (λ k c _ s. step_sorted t k c s)

-- Some commands lead to a reference.
abbrev pub Reached : Terms → Reference → Type 0
Reached t k = (cs : List Command) × (k ≡ after t empty cs)

reached_step : (t : Terms) (k : Reference) (c : Command) → Reached t k → Reached t (step t k c)
reached_step t k c r = (r.0 ++ (c ∷ []), ap (λ (j : Reference). step t j c) r.1 ∙ sym (after_append t empty r.0 (c ∷ [])))

pub reached_now : (t : Terms) (xs : List ℕ) (calls : List Call) → Reached t (reference_now t xs calls)
reached_now t xs calls = reference_keeps t (Reached t) (λ k c _ r. reached_step t k c r) empty (empty_row t xs) calls ([], refl)

-- So the reference's visits are right.
pub visits_right_now : (t : Terms) (xs : List ℕ) (calls : List Call) → Right t (reference_now t xs calls).readings (visits t (reference_now t xs calls).readings)
visits_right_now t xs calls =
    let r = reached_now t xs calls in subst (λ (k : Reference). Right t k.readings (visits t k.readings)) (sym r.1) (visits_right t r.0)
