-- What a refusal leaves, and when a command is judged by its own rules.
use Rattle.std.proofs.Common.{◌≡◌, ℕ, true, false, List, length, Ok, Err, Result, sym, refl, ap, ◌∙◌, arith}
use Rattle.std.specs.List.{AllByRecursion}
use Rattle.std.proofs.ByRecursion.{All-append}
use Rattle.std.proofs.lemmas.Bool.{true≢false}
use Rattle.visit.specs.declared.Reading.{Reading}
use Rattle.visit.specs.declared.Terms.{Terms}
use Rattle.visit.specs.Readings.{too_late}
use Rattle.command.specs.declared.Command.{Command}
use Rattle.command.specs.declared.Command.TheVariants.{Reading as AReading, Watermark}
use Rattle.command.specs.declared.Refusal.{Refusal}
use Rattle.command.specs.declared.Refusal.TheVariants.{TooLate}
use Rattle.model.specs.Store.{Draft, Store, draft}
use Rattle.store.specs.Applied.{Applied, applied_by}
use Rattle.store.specs.Contents.{header_in, store_in, terms_in}
use Rattle.command.specs.Cells.{command_in}
use Rattle.store.specs.Faults.{faults, verdict}
use Rattle.guarantees.specs.Calls.{Call, answer}
use Rattle.guarantees.specs.Refusals.{RefusalsChangeNothing, TooLateAlone, judged}
use Rattle.guarantees.proofs.Refusing.{Only, first_none, out_only, room_only, row_only, store_only, terms_only, watermark_only, which_comes}

by_verdict : (xs out : List ℕ) (v : Result Draft Refusal) (r : Refusal) → (applied_by xs out v).reply ≡ Err r → ((applied_by xs out v).store ≡ xs) × ((applied_by xs out v).out ≡ out)
by_verdict xs out (Err q) r e = (refl, refl)
by_verdict xs out (Ok d) r e = grind arith

pub refusals_change_nothing : RefusalsChangeNothing
refusals_change_nothing xs c r e = by_verdict xs c.out (verdict c.capacity xs c.command (length c.out)) r e

-- A refusal before that judges nothing.
abbrev Unjudged : Refusal → Type 0
Unjudged r = judged (Err r) ≡ false

early : (xs : List ℕ) (c : Call) → AllByRecursion (Only Unjudged) (faults c.capacity xs c.command (length c.out))
early xs c = grind (arith, Only Unjudged, terms_only Unjudged (λ n. refl) (terms_in xs), watermark_only Unjudged (λ n. refl) (header_in xs).clock.watermark, row_only Unjudged (λ n. refl) c.command, out_only Unjudged (λ n. refl) (length c.out), room_only Unjudged (λ n. refl) c.capacity (header_in xs) (store_in xs) (command_in c.command), store_only Unjudged (λ n. refl) xs, All-append)

-- So a command that is judged comes to what the store drafts.
pub judged_drafts : (xs : List ℕ) (c : Call) → judged (answer xs c).reply ≡ true → answer xs c ≡ applied_by xs c.out (draft (terms_in xs) (store_in xs) (command_in c.command))
judged_drafts xs c h = grind (arith, which_comes Unjudged (faults c.capacity xs c.command (length c.out)) (early xs c), early xs c, first_none, true≢false)

-- Which reading is too late, and what is answered to it.
late_by : (xs out : List ℕ) (t : Terms) (s : Store) (c : Command) (time : ℕ) → (applied_by xs out (draft t s c)).reply ≡ Err (TooLate time)
    → (e : Reading) × (c ≡ AReading e) × (too_late t s.watermark e ≡ true) × (e.time ≡ time)
late_by xs out t s (AReading e) time h = grind arith
late_by xs out t s (Watermark m) time h = grind arith

late_answer : (xs out : List ℕ) (t : Terms) (s : Store) (e : Reading) → too_late t s.watermark e ≡ true → (applied_by xs out (draft t s (AReading e))).reply ≡ Err (TooLate e.time)
late_answer xs out t s e h = simp h

pub too_late_alone : TooLateAlone
too_late_alone xs ys c d terms mark same j i time h = grind (arith, late_by xs c.out (terms_in xs) (store_in xs) (command_in c.command) time (sym (ap (λ (a : Applied). a.reply) (judged_drafts xs c j)) ∙ h), judged_drafts xs c j, judged_drafts ys d i, late_answer)
