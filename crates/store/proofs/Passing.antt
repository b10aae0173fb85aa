-- What is known once all checks have passed.
use Rattle.std.proofs.Common.{◌≡◌, ℕ, List, [], ◌∷◌, ◌++◌, Some, None, Ok, Err, Option, Result, sym, refl, ap, ◌∙◌, arith}
use Rattle.std.specs.List.{AllByRecursion}
use Rattle.command.specs.declared.Refusal.{Refusal}
use Rattle.model.specs.Store.{Draft, draft}
use Rattle.store.specs.declared.capacity.Capacity.{Capacity}
use Rattle.store.specs.declared.checks.Ready.{Ready}
use Rattle.store.specs.Checks.{checked, refusal_of}
use Rattle.store.specs.Contents.{header_in, store_in, terms_in}
use Rattle.command.specs.Cells.{command_in}
use Rattle.store.specs.Faults.{faults, first_fault, verdict}
use Rattle.store.proofs.Places.{no_fault, no_fault_is}

-- What is refused by a draft is refused by all checks with the draft behind them.
pub refused_too : {X Y : Type 0} (fs : List (Option Refusal)) (y : Y) (r : Refusal) (x : Result X Refusal) → first_fault (fs ++ (refusal_of x ∷ [])) (Ok y) ≡ Err r → first_fault fs x ≡ Err r
refused_too [] y r (Ok x) e = absurd (let z : ◌≡◌ {A = ℕ} 0 1 = cc e in omega arith)
refused_too [] y r (Err f) e = let same : f ≡ r = cc e in ap Err same
refused_too (None ∷ fs) y r x e = refused_too fs y r x e
refused_too (Some f ∷ fs) y r x e = let same : f ≡ r = cc e in ap Err same

module _ (cap : Capacity) (xs cs : List ℕ) (out : ℕ) where
  abbrev passing : Ready
  passing = record { header = header_in xs; command = command_in cs }

  abbrev drafted : Result Draft Refusal
  drafted = draft (terms_in xs) (store_in xs) (command_in cs)

  pub checked_is : checked cap xs cs out ≡ first_fault (faults cap xs cs out ++ (refusal_of drafted ∷ [])) (Ok passing)
  unfolding checked
  checked_is = refl

  pub refused_by : (r : Refusal) → Err r ≡ checked cap xs cs out → verdict cap xs cs out ≡ Err r
  refused_by r e = refused_too (faults cap xs cs out) passing r drafted (sym (e ∙ checked_is))

  -- No check found anything, and the draft stands.
  pub record Passed (q : Ready) : Type 0 where
    pub header : q.header ≡ header_in xs
    pub command : q.command ≡ command_in cs
    pub none : AllByRecursion (λ f. f ≡ None) (faults cap xs cs out ++ (refusal_of drafted ∷ []))

  pub passed_by : (q : Ready) → Ok q ≡ checked cap xs cs out → Passed q
  passed_by q e =
      let fs = faults cap xs cs out ++ (refusal_of drafted ∷ []) in
      let all = sym (e ∙ checked_is) in
      let same : passing ≡ q = no_fault_is fs passing q all in
      record { header = sym (ap (λ (r : Ready). r.header) same); command = sym (ap (λ (r : Ready). r.command) same); none = no_fault fs passing q all }
