-- What the checks of a store say of the numbers that they pass.
use Rattle.std.proofs.Common.{◌≡◌, ℕ, ◌≤◌, Bool, true, false, cond, ltb, List, length, Some, None, Ok, Err, Option, Result, sym, refl, ap, ◌∙◌, arith}
use Rattle.std.specs.List.{AllByRecursion}
use Rattle.std.proofs.lemmas.Bool.{le-ltb, ltb-false}
use Rattle.std.proofs.lemmas.Bool.Decides.{nat_tests}
use Rattle.command.specs.declared.Refusal.{Refusal}
use Rattle.command.specs.declared.Refusal.TheVariants.{BadStore}
use Rattle.rows.specs.Limits.{first_over}
use Rattle.rows.proofs.Overs.{mapped_none, over_taken}
use Rattle.store.specs.declared.header.Header.{Header}
use Rattle.store.specs.Checks.{is_ok, sound_header, sound_row}
use Rattle.store.specs.Contents.{header_in}
use Rattle.store.specs.Faults.{first_fault, short_fault, store_faults}
use Rattle.store.specs.Header.{Counted, header_cells, header_laws, header_limits}
use Rattle.store.specs.Layout.{header_width, store_size}
use Rattle.store.specs.Views.{Sized}
use Rattle.store.proofs.Places.{no_fault, none_found}

-- What a search of the row for a number over its limit says of the header that stands in it.
pub over_header : (xs : List ℕ) (ls : List (Option ℕ)) → ls ≡ header_limits → header_width ≤ length xs
    → first_over 0 ls xs ≡ first_over 0 header_limits (header_cells (header_in xs))
over_header xs ls limits long =
    ap (λ l. first_over 0 l xs) limits ∙ sym (over_taken 0 header_limits xs) ∙ ap (first_over 0 header_limits) (sym (header_laws.back xs long))

pub counts_within : (h : Header) → first_over 0 header_limits (header_cells h) ≡ None → Counted h
counts_within h e = record { visits = grind (arith, nat_tests); readings = grind (arith, nat_tests); lines = grind (arith, nat_tests) }

pub long_enough : (xs : List ℕ) → store_size ≤ length xs → short_fault xs ≡ None
long_enough xs h = ap (λ b. cond b (Some (BadStore (length xs))) None) (le-ltb _ _ h)

short_not : (b : Bool) (xs : List ℕ) → ltb (length xs) store_size ≡ b → cond b (Some (BadStore (length xs))) None ≡ None → store_size ≤ length xs
short_not true xs t e = absurd (let z : ◌≡◌ {A = ℕ} 0 1 = cc e in omega arith)
short_not false xs t e = ltb-false (length xs) store_size t

which_ok : {X : Type 0} (r : Result X Refusal) → is_ok r ≡ true → (x : X) × (r ≡ Ok x)
which_ok (Ok x) e = (x, refl)
which_ok (Err r) e = absurd (let z : ◌≡◌ {A = ℕ} 0 1 = cc in omega arith)

-- A row is a store just if no check of it finds anything.
pub none_by : (xs : List ℕ) → sound_row xs ≡ true → AllByRecursion (λ f. f ≡ None) (store_faults xs)
none_by xs e = let w = which_ok (sound_header xs) e in no_fault (store_faults xs) (header_in xs) w.0 w.1

pub sound_by : (xs : List ℕ) → AllByRecursion (λ f. f ≡ None) (store_faults xs) → sound_row xs ≡ true
sound_by xs a = ap is_ok (none_found (store_faults xs) (Ok (header_in xs)) a)

pub sound_if : (xs : List ℕ) → Ok (tt {0}) ≡ first_fault (store_faults xs) (Ok tt) → sound_row xs ≡ true
sound_if xs e = sound_by xs (no_fault (store_faults xs) (tt {0}) tt (sym e))

-- It is then long enough, with counts within their rooms.
pub sized_by : (xs : List ℕ) → sound_row xs ≡ true → Sized xs
sized_by xs e =
    let none = none_by xs e in
    record { size = short_not (ltb (length xs) store_size) xs refl none.0; counts = counts_within (header_in xs) (mapped_none BadStore _ none.1.0) }
