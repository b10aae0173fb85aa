-- Rows that commands have written: each command keeps them so, and they are stores while the totals are below their limits.
use Rattle.std.proofs.Common.{◌≡◌, ℕ, ◌+◌, ◌<◌, ◌≤◌, min, Bool, true, ltb, List, [], ◌∷◌, ◌++◌, length, drop, Some, None, Err, Option, Result, sym, refl, ap, ◌∙◌, subst, arith}
use mathlib.Core.Logic.{∥∥₁_map, ∥∥₁_elim}
use base.Stored.{Coded-set}
use Rattle.std.proofs.lemmas.Bool.Decides.{nat_tests}
use Rattle.std.specs.Coded.{coded_list}
use Rattle.std.specs.List.{AllByRecursion-prop}
use Rattle.std.proofs.Math.Bridge.{le_prop}
use mathlib.Core.Bool.{Bool-set}
use Rattle.visit.specs.contracts.Reading as reading_row
use Rattle.visit.specs.contracts.Visit as visit_row
use Rattle.visit.specs.declared.Clock.{Clock}
use Rattle.visit.specs.declared.Reading.{Reading}
use Rattle.visit.specs.declared.Terms.{Terms}
use Rattle.visit.specs.declared.Visit.{Visit}
use Rattle.visit.specs.Lines.{line_before}
use Rattle.visit.specs.Order.{RisingBy}
use Rattle.visit.specs.Readings.{reading_before, too_late}
use Rattle.live.specs.Apart.{Apart, WellBefore}
use Rattle.command.specs.declared.Command.{Command}
use Rattle.command.specs.declared.Command.TheVariants.{Reading as AReading, Watermark}
use Rattle.command.specs.declared.Refusal.{Refusal}
use Rattle.command.specs.Numbers.{Reply}
use Rattle.model.specs.Reference.{Reference, empty, plan, state_by}
use Rattle.model.specs.Sessions.{contains}
use Rattle.model.specs.Store.{Store}
use Rattle.model.proofs.Common.{split}
use Rattle.model.proofs.Mirror.{image}
use Rattle.rows.specs.Limits.{count_limit, sum_limit}
use Rattle.store.specs.declared.capacity.Capacity.{Capacity}
use Rattle.store.specs.Applied.{applied}
use Rattle.store.specs.Checks.{sound_row}
use Rattle.store.specs.Contents.{empty_row, store_in, terms_in}
use Rattle.store.specs.Order.{Orderly, Settled}
use Rattle.command.specs.Cells.{command_in, command_cells}
use Rattle.store.specs.Faults.{first_fault}
use Rattle.store.specs.Layout.{store_size}
use Rattle.store.proofs.Bounds.{sound_by}
use Rattle.guarantees.specs.AnyTime.{reference_now}
use Rattle.guarantees.specs.Calls.{Call, answer, row_left}
use Rattle.guarantees.specs.Faithful.{call_faults, next, planned, reference_left, withheld}
use Rattle.guarantees.specs.Rows.{clean_row}
use Rattle.guarantees.proofs.Along.{left_now}
use Rattle.guarantees.proofs.Clean.{clean_store}
use Rattle.guarantees.proofs.Growing.{amounts, amounts_insert}
use Rattle.guarantees.proofs.Ordering.{image_orderly}
use Rattle.guarantees.proofs.Lengths.{length-insert}
use Rattle.guarantees.proofs.Sound.{sound_now}
use Rattle.owned.specs.Written.{Written, amount_in, below_limits}

-- A command takes in one reading at most, and no more than its amount.
abbrev Takes : Command → Reference → Reference → Type 0
Takes c k next = (length next.readings ≤ length k.readings + 1) × (amounts next.readings ≤ amounts k.readings + amount_in c)

nothing : (c : Command) (k : Reference) → Takes c k k
nothing c k = (omega arith, omega arith)

plan_takes : (t : Terms) (k : Reference) (c : Command) → Takes c k (state_by k (plan t k c))
plan_takes t k (AReading e) =
    split (too_late t k.watermark e)
    (λ l. simp l (nothing (AReading e) k))
    (λ l. split (contains t e k.readings)
    (λ o. simp (l, o) (nothing (AReading e) k))
    (λ o. let n = length-insert t e k.readings in let a = amounts_insert t e k.readings in simp (l, o) (omega arith, omega arith)))
plan_takes t k (Watermark m) = split (ltb m k.watermark) (λ o. simp o (nothing (Watermark m) k)) (λ o. simp o (nothing (Watermark m) k))

-- What holds of a result, and of any refusal in its place, holds of it after checks.
after_checks : {X : Type 0} (P : Result X Refusal → Type 0) (fs : List (Option Refusal)) (y : Result X Refusal) → P y → ((r : Refusal) → P (Err r)) → P (first_fault fs y)
after_checks P [] y p e = p
after_checks P (None ∷ fs) y p e = after_checks P fs y p e
after_checks P (Some r ∷ fs) y p e = e r

next_takes : (t : Terms) (k : Reference) (c : Call) (r : Reply) → Takes (command_in c.command) k (next t k c r)
next_takes t k c r =
    let command : Command = command_in c.command in
    let by_plan : Takes command k (state_by k (planned t k c)) =
    after_checks (λ (p : Result Reference Refusal). Takes command k (state_by k p)) (call_faults t c) (plan t k command) (plan_takes t k command) (λ _. nothing command k) in
    split (withheld r) (λ o. simp o (nothing command k)) (λ o. simp o by_plan)

-- One call after others.
row_more : (xs : List ℕ) (calls : List Call) (c : Call) → row_left xs (calls ++ c ∷ []) ≡ (answer (row_left xs calls) c).store
row_more xs [] c = refl
row_more xs (d ∷ ds) c = row_more (answer xs d).store ds c

reference_more : (t : Terms) (k : Reference) (xs : List ℕ) (calls : List Call) (c : Call)
    → reference_left t k xs (calls ++ c ∷ []) ≡ next t (reference_left t k xs calls) c (answer (row_left xs calls) c).reply
reference_more t k xs [] c = refl
reference_more t k xs (d ∷ ds) c = reference_more t (next t k d (answer xs d).reply) (answer xs d).store ds c

pub first_written : (t : Terms) (xs : List ℕ) → Written (empty_row t xs) 0 0
first_written t xs = record { terms = t; start = xs; calls = []; row = refl; sum = omega arith; count = omega arith }

pub written_more : (xs : List ℕ) (amount taken : ℕ) → Written xs amount taken → (c : Call) (added total readings : ℕ)
    → amount_in (command_in c.command) ≡ added → min (amount + added) sum_limit ≤ total → min (taken + 1) count_limit ≤ readings → Written (answer xs c).store total readings
written_more xs amount taken w c added total readings is more one =
    let t : Terms = w.terms in
    let start : List ℕ = empty_row t w.start in
    let k : Reference = reference_now t w.start w.calls in
    let takes : Takes (command_in c.command) k (reference_now t w.start (w.calls ++ c ∷ [])) =
    subst (Takes (command_in c.command) k) (sym (reference_more t empty start w.calls c)) (next_takes t k c (answer (row_left start w.calls) c).reply) in
    record {
      terms = t;
      start = w.start;
      calls = w.calls ++ c ∷ [];
      row = ap (λ (ys : List ℕ). (answer ys c).store) w.row ∙ sym (row_more start w.calls c);
      sum = omega (arith, w.sum, takes.1, is);
      count = omega (arith, w.count, takes.0);
    }

same_command : (c : Command) → command_in (command_cells c) ≡ c
same_command (AReading e) = refl
same_command (Watermark m) = refl

-- A command is one call more.
pub written_then : (cap : Capacity) (cmd : Command) (xs ys out : List ℕ) (amount taken added total readings : ℕ) → ∥ Written xs amount taken ∥₁
    → ys ≡ (applied cap xs (command_cells cmd) out).store → added ≡ amount_in cmd → min (amount + added) sum_limit ≤ total → min (taken + 1) count_limit ≤ readings → ∥ Written ys total readings ∥₁
written_then cap cmd xs ys out amount taken added total readings written row is more one =
    let call : Call = record { capacity = cap; command = command_cells cmd; out = out } in
    ∥∥₁_map written (λ w. subst (λ (zs : List ℕ). Written zs total readings) (sym row)
    (written_more xs amount taken w call added total readings (ap amount_in (same_command cmd) ∙ sym is) more one))

below : (amount taken : ℕ) → below_limits amount taken ≡ true → (amount < sum_limit) × (taken < count_limit)
below amount taken h = (grind (arith, nat_tests), grind (arith, nat_tests))

pub written_sound : (xs : List ℕ) (amount taken : ℕ) → below_limits amount taken ≡ true → Written xs amount taken → sound_row xs ≡ true
written_sound xs amount taken h w =
    let b = below amount taken h in
    let k : Reference = reference_now w.terms w.start w.calls in
    let rest : List ℕ = drop store_size w.start in
    let l = left_now w.terms w.start w.calls in
    let n : length k.readings < count_limit = omega (arith, w.count, b.1) in
    let a : amounts k.readings < sum_limit = omega (arith, w.sum, b.0) in
    ap sound_row (w.row ∙ l.row) ∙ sound_by (clean_row w.terms (image w.terms k) rest) (sound_now w.terms k l.stands n a rest)

-- That a store is in order is a mere fact.
apart_prop : (t : Terms) (vs : List Visit) → IsProp (Apart t vs)
apart_prop t [] p q = refl
apart_prop t (v ∷ vs) p q = λ i.
    (le_prop p.0 q.0 i, AllByRecursion-prop (WellBefore t v) (λ w a b j. (le_prop a.0 b.0 j, λ h. le_prop (a.1 h) (b.1 h) j)) vs p.1 q.1 i, apart_prop t vs p.2 q.2 i)

rising_prop : {X : Type 0} (before : X → X → Bool) (xs : List X) → IsProp (RisingBy before xs)
rising_prop before [] p q = refl
rising_prop before (x ∷ xs) p q = λ i. (AllByRecursion-prop (λ y. before x y ≡ true) (λ y. Bool-set _ _) xs p.0 q.0 i, rising_prop before xs p.1 q.1 i)

settled_prop : (k : Clock) (vs : List Visit) (es : List Reading) → IsProp (Settled k vs es)
settled_prop k vs es p q = λ i. record {
  visits = Coded-set (coded_list visit_row.the_row.coded) _ _ p.visits q.visits i;
  readings = Coded-set (coded_list reading_row.the_row.coded) _ _ p.readings q.readings i;
}

orderly_prop : (t : Terms) (s : Store) → IsProp (Orderly t s)
orderly_prop t s p q = λ i. record {
  current = record {
    visits = apart_prop t s.live p.current.visits q.current.visits i;
    readings = rising_prop (reading_before t) s.seen p.current.readings q.current.readings i;
    settled = settled_prop (record { terms = t; watermark = s.watermark }) s.live s.seen p.current.settled q.current.settled i;
  };
  lines = rising_prop (line_before t) s.ledger p.lines q.lines i;
}

-- Such a row is in order, and nothing in it has expired.
by_calls : (xs : List ℕ) (amount taken : ℕ) → Written xs amount taken → Orderly (terms_in xs) (store_in xs)
by_calls xs amount taken w =
    let t : Terms = w.terms in
    let k : Reference = reference_now t w.start w.calls in
    let rest : List ℕ = drop store_size w.start in
    let l = left_now t w.start w.calls in
    let held : store_in (clean_row t (image t k) rest) ≡ image t k = clean_store t (image t k) rest l.stands.roomy.fits in
    subst (λ (ys : List ℕ). Orderly (terms_in ys) (store_in ys)) (sym (w.row ∙ l.row)) (subst (Orderly t) (sym held) (image_orderly t k l.stands.sorted))

pub written_orderly : (xs : List ℕ) (amount taken : ℕ) → ∥ Written xs amount taken ∥₁ → Orderly (terms_in xs) (store_in xs)
written_orderly xs amount taken w = ∥∥₁_elim w (orderly_prop (terms_in xs) (store_in xs)) (by_calls xs amount taken)
