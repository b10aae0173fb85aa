-- The first number over its limit, and the first of several refusals.
use Rattle.std.proofs.Common.{◌≡◌, ℕ, ◌+◌, List, [], ◌∷◌, Some, None, Ok, Err, Option, Result, sym, refl, ap, ◌∙◌, add-zero}
use Rattle.std.specs.Option.{option_map}
use Rattle.std.specs.List.{AllByRecursion}
use Rattle.command.specs.declared.Refusal.{Refusal}
use Rattle.command.specs.Bounds.{unless}
use Rattle.model.specs.Reference.{or_fault}
use Rattle.rows.specs.Limits.{first_over}
use Rattle.rows.proofs.Overs.{over_shift}
use Rattle.store.specs.Faults.{first_fault}

pub over_from : (at : ℕ) (ls : List (Option ℕ)) (xs : List ℕ) → first_over at ls xs ≡ option_map (λ k. at + k) (first_over 0 ls xs)
over_from at ls xs = ap (λ k. first_over k ls xs) (sym (add-zero at)) ∙ over_shift at 0 ls xs

-- A refusal is the same whatever would come after it; where there is none, each check found nothing.
pub fault_stands : {X Y : Type 0} (fs : List (Option Refusal)) (x : X) (y : Result Y Refusal) (r : Refusal) → first_fault fs (Ok x) ≡ Err r → first_fault fs y ≡ Err r
fault_stands [] x y r e = cc
fault_stands (None ∷ fs) x y r e = fault_stands fs x y r e
fault_stands (Some f ∷ fs) x y r e = cc

pub no_fault : {X : Type 0} (fs : List (Option Refusal)) (x z : X) → first_fault fs (Ok x) ≡ Ok z → AllByRecursion (λ f. f ≡ None) fs
no_fault [] x z e = tt
no_fault (None ∷ fs) x z e = (refl, no_fault fs x z e)
no_fault (Some f ∷ fs) x z e = let no : ⊥ = cc in absurd no

pub no_fault_is : {X : Type 0} (fs : List (Option Refusal)) (x z : X) → first_fault fs (Ok x) ≡ Ok z → x ≡ z
no_fault_is [] x z e = cc
no_fault_is (None ∷ fs) x z e = no_fault_is fs x z e
no_fault_is (Some f ∷ fs) x z e = cc

pub none_found : {X : Type 0} (fs : List (Option Refusal)) (y : Result X Refusal) → AllByRecursion (λ f. f ≡ None) fs → first_fault fs y ≡ y
none_found [] y a = refl
none_found (f ∷ fs) y a = ap (λ o. or_fault o (first_fault fs y)) a.0 ∙ none_found fs y a.1

pub unless_is : {X : Type 0} (f : Option Refusal) (x : X) → unless f x ≡ or_fault f (Ok x)
unless_is None x = refl
unless_is (Some r) x = refl

-- One check after another: where one found nothing its value is handed on and the next is asked, and what one refuses is what comes of all.
pub passed : {X : Type 0} (f : Option Refusal) (x z : X) → Ok z ≡ unless f x → x ≡ z
passed f x z e = no_fault_is (f ∷ []) x z (sym (e ∙ unless_is f x))

pub past : {X Y : Type 0} (f : Option Refusal) (x z : X) (y : Result Y Refusal) → Ok z ≡ unless f x → or_fault f y ≡ y
past f x z y e = none_found (f ∷ []) y (no_fault (f ∷ []) x z (sym (e ∙ unless_is f x)))

pub halt : {X Y : Type 0} (f : Option Refusal) (x : X) (r : Refusal) (y : Result Y Refusal) → Err r ≡ unless f x → or_fault f y ≡ Err r
halt f x r y e = fault_stands (f ∷ []) x y r (sym (e ∙ unless_is f x))
