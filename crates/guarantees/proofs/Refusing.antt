-- Several refusals, one before the other: which of them comes.
use Rattle.std.proofs.Common.{◌≡◌, ℕ, Bool, true, false, cond, ◌⊎◌, List, [], ◌∷◌, length, Some, None, Err, Option, Result, refl, inl, inr, arith}
use Rattle.std.specs.Option.{option_map}
use Rattle.std.specs.List.{AllByRecursion}
use Rattle.visit.specs.declared.Terms.{Terms}
use Rattle.command.specs.declared.Command.{Command}
use Rattle.command.specs.declared.Command.TheVariants.{Reading as AReading, Watermark}
use Rattle.command.specs.declared.Refusal.{Refusal}
use Rattle.command.specs.declared.Refusal.TheVariants.{BadStore, BadTerms, BadCommand, Full, ShortOut}
use Rattle.command.specs.Bounds.{command_fault, terms_fault}
use Rattle.model.specs.Store.{Store}
use Rattle.store.specs.declared.capacity.Capacity.{Capacity}
use Rattle.store.specs.declared.header.Header.{Header}
use Rattle.command.specs.Cells.{command_in, row_fault}
use Rattle.store.specs.Faults.{first_fault, out_fault, room_fault, store_faults, watermark_fault}
use Rattle.guarantees.specs.Calls.{Call}
use Rattle.guarantees.specs.Faithful.{call_faults, withheld}

pub first_none : {X : Type 0} (fs : List (Option Refusal)) (r : Result X Refusal) → AllByRecursion (λ f. f ≡ None) fs → first_fault fs r ≡ r
first_none [] r a = refl
first_none (f ∷ fs) r a = grind (arith, first_none fs r a.1)

-- No refusal, or one of which P holds.
abbrev pub Only : (Refusal → Type 0) → Option Refusal → Type 0
Only P f = (f ≡ None) ⊎ ((r : Refusal) × P r × (f ≡ Some r))

-- Of several such either none refuses, or one comes before all else, whatever that is.
pub record Comes (P : Refusal → Type 0) (fs : List (Option Refusal)) : Type 1 where
  pub refusal : Refusal
  pub kind : P refusal
  pub first : {X : Type 0} (r : Result X Refusal) → first_fault fs r ≡ Err refusal

pub which_comes : (P : Refusal → Type 0) (fs : List (Option Refusal)) → AllByRecursion (Only P) fs → AllByRecursion (λ f. f ≡ None) fs ⊎ Comes P fs
which_comes P [] a = inl tt
which_comes P (f ∷ fs) a = grind (arith, which_comes P fs a.1)

module _ (P : Refusal → Type 0) where
  none_only : Only P None
  none_only = inl refl

  some_only : (f : ℕ → Refusal) → ((n : ℕ) → P (f n)) → (n : ℕ) → Only P (Some (f n))
  some_only f h n = inr (f n, h n, refl)

  mapped_only : (f : ℕ → Refusal) → ((n : ℕ) → P (f n)) → (o : Option ℕ) → Only P (option_map f o)
  mapped_only f h None = none_only
  mapped_only f h (Some n) = some_only f h n

  cond_only : (b : Bool) (f g : Option Refusal) → Only P f → Only P g → Only P (cond b f g)
  cond_only true f g p q = p
  cond_only false f g p q = q

  -- What holds of a kind of refusal holds of each check that brings it.
  pub store_only : ((n : ℕ) → P (BadStore n)) → (xs : List ℕ) → AllByRecursion (Only P) (store_faults xs)
  store_only h xs = grind (arith, some_only BadStore h, mapped_only BadStore h, cond_only, none_only)

  pub room_only : ((n : ℕ) → P (Full n)) → (cap : Capacity) (t : Header) (s : Store) (c : Command) → Only P (room_fault cap t s c)
  room_only h cap t s (AReading e) = grind (arith, some_only Full h, cond_only, none_only)
  room_only h cap t s (Watermark m) = grind (arith, some_only Full h, cond_only, none_only)

  pub terms_only : ((n : ℕ) → P (BadTerms n)) → (t : Terms) → Only P (terms_fault t)
  terms_only h t = grind (arith, some_only BadTerms h, cond_only, none_only)

  pub watermark_only : ((n : ℕ) → P (BadTerms n)) → (m : ℕ) → Only P (watermark_fault m)
  watermark_only p m = grind (arith, some_only BadTerms p, cond_only, none_only)

  pub row_only : ((n : ℕ) → P (BadCommand n)) → (cs : List ℕ) → Only P (row_fault cs)
  row_only h cs = grind (arith, some_only BadCommand h, mapped_only, cond_only)

  pub out_only : ((n : ℕ) → P (ShortOut n)) → (n : ℕ) → Only P (out_fault n)
  out_only h n = grind (arith, some_only ShortOut h, cond_only, none_only)

-- The kinds of the store's own faults, of want of room, and of what is not withheld from the reference.
abbrev pub IsBadStore : Refusal → Type 0
IsBadStore r = (p : ℕ) × (r ≡ BadStore p)

abbrev pub IsFull : Refusal → Type 0
IsFull r = (p : ℕ) × (r ≡ Full p)

abbrev pub OpenRefusal : Refusal → Type 0
OpenRefusal r = withheld (Err r) ≡ false

pub call_only : (t : Terms) (c : Call) → AllByRecursion (Only OpenRefusal) (call_faults t c)
call_only t c =
    (terms_only OpenRefusal (λ n. refl) t, (row_only OpenRefusal (λ n. refl) c.command, (out_only OpenRefusal (λ n. refl) (length c.out), tt)))

-- A row with nothing wrong holds a command within its bounds.
pub sound_row : (cs : List ℕ) → row_fault cs ≡ None → command_fault (command_in cs) ≡ None
sound_row cs h = grind arith
