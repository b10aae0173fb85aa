-- A call takes in one reading at most, so few calls take in few readings of small amounts.
use Rattle.std.proofs.Common.{◌≡◌, ℕ, ◌+◌, ◌-◌, ◌*◌, ◌<◌, ◌≤◌, List, [], ◌∷◌, length, Some, None, Err, sum_by, refl, arith}
use Rattle.std.proofs.lemmas.List.Sums.{sum_by-cons}
use Rattle.std.proofs.lemmas.Bool.Decides.{nat_tests}
use Rattle.visit.specs.declared.Reading.{Reading}
use Rattle.visit.specs.declared.Terms.{Terms}
use Rattle.visit.specs.Readings.{reading_before}
use Rattle.command.specs.declared.Command.{Command}
use Rattle.command.specs.declared.Command.TheVariants.{Reading as AReading, Watermark}
use Rattle.command.specs.declared.Refusal.{Refusal}
use Rattle.command.specs.Numbers.{Reply}
use Rattle.command.specs.Bounds.{command_fault, terms_fault, word_limit}
use Rattle.model.specs.Reference.{Reference, plan, state_by}
use Rattle.model.specs.Sessions.{insert_reading}
use Rattle.model.proofs.Common.{split}
use Rattle.command.specs.Cells.{command_in}
use Rattle.guarantees.specs.Calls.{Call, answer}
use Rattle.guarantees.specs.Faithful.{next, planned, reference_left}
use Rattle.guarantees.proofs.Keeping.{planned_by}
use Rattle.guarantees.proofs.Lengths.{length-insert}

abbrev pub amounts : List Reading → ℕ
amounts es = sum_by (λ e. e.amount) es

pub amounts_insert : (t : Terms) (e : Reading) (xs : List Reading) → amounts (insert_reading t e xs) ≡ e.amount + amounts xs
amounts_insert t e [] = sum_by-cons (λ x. x.amount) e []
amounts_insert t e (x ∷ xs) =
    let f : Reading → ℕ = λ y. y.amount in
    let old = sum_by-cons f x xs in
    split (reading_before t x e)
    (λ o. let ih = amounts_insert t e xs in let new = sum_by-cons f x (insert_reading t e xs) in simp o (omega arith))
    (λ o. simp o (sum_by-cons f e (x ∷ xs)))

-- At most one reading more, of an amount within bounds.
abbrev Grows : Reference → Reference → Type 0
Grows k next = (length next.readings ≤ length k.readings + 1) × (amounts next.readings ≤ amounts k.readings + (word_limit - 1))

stays : (k : Reference) → Grows k k
stays k = (omega arith, omega arith)

amount_within : (e : Reading) → command_fault (AReading e) ≡ None → e.amount < word_limit
amount_within e h = grind (arith, nat_tests)

plan_grows : (t : Terms) (k : Reference) (c : Command) → command_fault c ≡ None → Grows k (state_by k (plan t k c))
plan_grows t k (AReading e) h = grind (arith, nat_tests, stays k, length-insert t e k.readings, amounts_insert t e k.readings, amount_within e h)
plan_grows t k (Watermark m) h = grind (arith, nat_tests, stays k)

planned_grows : (t : Terms) (k : Reference) (c : Call) → Grows k (state_by k (planned t k c))
planned_grows t k c = planned_by t k c (Grows k) (stays k) (plan_grows t k (command_in c.command))

next_grows : (t : Terms) (k : Reference) (c : Call) (r : Reply) → Grows k (next t k c r)
next_grows t k c r = grind (arith, nat_tests, stays k, planned_grows t k c)

pub reference_grows : (t : Terms) (k : Reference) (xs : List ℕ) (calls : List Call)
    → (length (reference_left t k xs calls).readings ≤ length k.readings + length calls) × (amounts (reference_left t k xs calls).readings ≤ amounts k.readings + length calls * (word_limit - 1))
reference_grows t k xs [] = (omega arith, omega arith)
reference_grows t k xs (c ∷ cs) = grind (arith, nat_tests, next_grows t k c (answer xs c).reply, reference_grows t (next t k c (answer xs c).reply) (answer xs c).store cs)

-- With terms out of bounds nothing is taken in.
pub bad_terms_planned : (t : Terms) (k : Reference) (c : Call) (r : Refusal) → terms_fault t ≡ Some r → planned t k c ≡ Err r
bad_terms_planned t k c r h = grind (arith, nat_tests)

pub bad_terms_stay : (t : Terms) (k : Reference) (r : Refusal) → terms_fault t ≡ Some r → (xs : List ℕ) (calls : List Call) → reference_left t k xs calls ≡ k
bad_terms_stay t k r h xs [] = refl
bad_terms_stay t k r h xs (c ∷ cs) = grind (arith, nat_tests, bad_terms_planned t k c r h, bad_terms_stay t k r h (answer xs c).store cs)
