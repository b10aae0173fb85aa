-- What some cards have: of the ledger, of the store that stands for a reference, and of what is planned for a command.
use Rattle.std.proofs.Common.{◌≡◌, ℕ, Bool, true, false, List, [], ◌∷◌, None, Ok, Err, filter, Result, sym, refl, ap, ◌∙◌, ⊎_elim, arith}
use Rattle.std.specs.List.{AllByRecursion}
use Rattle.std.proofs.ByRecursion.{all_kept_by, All-weaker, kept_by_passes}
use Rattle.std.proofs.lemmas.Bool.{lt-ltb}
use Rattle.std.proofs.lemmas.Bool.Decides.{nat_tests}
use Rattle.visit.specs.declared.Line.{Line}
use Rattle.visit.specs.declared.Reading.{Reading}
use Rattle.visit.specs.declared.Terms.{Terms}
use Rattle.visit.specs.declared.Visit.{Visit}
use Rattle.visit.specs.Chains.{line_chained}
use Rattle.visit.specs.Lines.{line_before, line_of, same_key}
use Rattle.command.specs.declared.Command.{Command}
use Rattle.command.specs.declared.Command.TheVariants.{Reading as AReading, Watermark}
use Rattle.command.specs.declared.Refusal.{Refusal}
use Rattle.model.specs.Cards.{of_cards}
use Rattle.model.specs.Ledger.{add_line, add_visits, totals}
use Rattle.model.specs.Reference.{Reference, closed_of, outcome_by, plan, state_by}
use Rattle.model.specs.Sessions.{changes, difference}
use Rattle.model.specs.Store.{Store}
use Rattle.model.specs.Unseen.{Lined}
use Rattle.model.proofs.Cards.{closed_of_part, contains_by, part_by, step_by, step_other, visits_of_part}
use Rattle.model.proofs.Common.{kept_agree, kept_commute, kept_shorter, some_kept, split}
use Rattle.model.proofs.Lines.{lined_line}
use Rattle.model.proofs.Mirror.{image}
use Rattle.model.proofs.Order.{SortedReadings}
use Rattle.model.proofs.Totals.{key_after, one_visit}
use Rattle.store.specs.declared.capacity.Capacity.{Capacity}
use Rattle.store.specs.Contents.{header_of}
use Rattle.command.specs.Cells.{command_in}
use Rattle.store.specs.Faults.{room_fault}
use Rattle.guarantees.specs.Calls.{Call}
use Rattle.guarantees.specs.Cards.{concerns, outcome_part, store_part, visits_part}
use Rattle.guarantees.specs.Faithful.{call_faults, planned}
use Rattle.guarantees.proofs.Keeping.{planned_by}
use Rattle.guarantees.proofs.Limits.{Small, SmallLine, SmallReading, SmallVisit}
use Rattle.guarantees.proofs.ReadingBack.{same_store}
use Rattle.guarantees.proofs.Refusing.{OpenRefusal, call_only, first_none, which_comes}

abbrev pub lines_part : (ℕ → Bool) → List Line → List Line
lines_part p ls = filter (λ l. p l.card) ls

-- A line that comes before all others goes to the front.
behind_key : (t : Terms) (a y : Line) → line_before t a y ≡ true → (line_before t y a ≡ false) × (same_key t y a ≡ false)
unfolding line_before same_key
behind_key t a y h = (grind (arith, nat_tests), grind (arith, nat_tests))

key_card : (t : Terms) (x a : Line) → same_key t x a ≡ true → x.card ≡ a.card
unfolding same_key
key_card t x a h = grind (arith, nat_tests)

add_front : (t : Terms) (a : Line) (ls : List Line) → AllByRecursion (λ y. line_before t a y ≡ true) ls → add_line t a ls ≡ a ∷ ls
add_front t a [] b = refl
add_front t a (y ∷ ys) b = let n = behind_key t a y b.0 in simp (n.0, n.1)

module _ (t : Terms) (p : ℕ → Bool) where
  -- A line put to a ledger, and the part of these cards.
  add_part : (a : Line) (ls : List Line) → Lined t ls → p a.card ≡ true → lines_part p (add_line t a ls) ≡ add_line t a (lines_part p ls)
  add_part a [] l h = simp h
  add_part a (x ∷ xs) l h =
      let ih = add_part a xs l.2 h in
      split (line_before t x a)
      (λ o. split (p x.card) (λ q. simp (o, q, ih)) (λ q. simp (o, q, ih)))
      (λ o. split (same_key t x a)
      (λ k. let q : p x.card ≡ true = ap p (key_card t x a k) ∙ h in simp (o, k, q))
      (λ k. split (p x.card)
      (λ q. simp (o, k, q, h))
      (λ q.
      let n = key_after t x a o k in
      let b : AllByRecursion (λ y. line_before t a y ≡ true) xs = All-weaker (λ y. line_before t x y ≡ true) (λ y. line_before t a y ≡ true) (λ y r. line_chained t a x y n r) xs l.1 in
      let f = add_front t a (lines_part p xs) (all_kept_by (λ y. p y.card) (λ y. line_before t a y ≡ true) xs b) in
      simp (o, k, q, h, f))))

  add_other : (a : Line) (ls : List Line) → p a.card ≡ false → lines_part p (add_line t a ls) ≡ lines_part p ls
  add_other a [] h = simp h
  add_other a (x ∷ xs) h = grind (arith, nat_tests, add_other a xs h, key_card)

  line_card : (v : Visit) → (line_of t v).card ≡ v.card
  unfolding line_of
  line_card v = refl

  add_visits_part : (vs : List Visit) (ls : List Line) → Lined t ls → lines_part p (add_visits t vs ls) ≡ add_visits t (visits_part p vs) (lines_part p ls)
  add_visits_part [] ls l = refl
  add_visits_part (v ∷ vs) ls l =
      let a : Line = line_of t v in
      let ih = add_visits_part vs (add_line t a ls) (lined_line t a ls (one_visit t v) l) in
      split (p v.card)
      (λ o. simp o (ih ∙ ap (add_visits t (visits_part p vs)) (add_part a ls l (ap p (line_card v) ∙ o))))
      (λ o. simp o (ih ∙ ap (add_visits t (visits_part p vs)) (add_other a ls (ap p (line_card v) ∙ o))))

  pub totals_part : (vs : List Visit) → totals t (visits_part p vs) ≡ lines_part p (totals t vs)
  totals_part vs = sym (add_visits_part vs [] tt)

  -- The store that stands for the part is the part of the store.
  pub image_part : (k : Reference) → SortedReadings t k.readings → image t (part_by p k) ≡ store_part p (image t k)
  image_part k s = grind (arith, nat_tests, image t k, image t (part_by p k), part_by p k, visits_of_part t p k.readings s, closed_of_part t p k s, totals_part (closed_of t k), same_store, kept_commute)

  -- The part has no more rows, with no larger numbers.
  pub small_part : (s : Store) → Small s → Small (store_part p s)
  small_part s z =
      record {
        live = all_kept_by (λ v. p v.card) SmallVisit s.live z.live;
        seen = all_kept_by (λ e. p e.card) SmallReading s.seen z.seen;
        ledger = all_kept_by (λ l. p l.card) SmallLine s.ledger z.ledger;
      }

  pub room_part : (cap : Capacity) (s : Store) (e : Reading) → room_fault cap (header_of t s) s (AReading e) ≡ None
      → room_fault cap (header_of t (store_part p s)) (store_part p s) (AReading e) ≡ None
  room_part cap s e h = grind (arith, nat_tests, kept_shorter (λ v. p v.card) s.live, kept_shorter (λ e. p e.card) s.seen, kept_shorter (λ l. p l.card) s.ledger, lt-ltb)

  -- What is planned for a command of these cards is the same of the part; for another, the part stays.
  abbrev pub plan_part : Result Reference Refusal → Result Reference Refusal
  plan_part (Ok j) = Ok (part_by p j)
  plan_part (Err r) = Err r

  planned_command : (k : Reference) (c : Command) → SortedReadings t k.readings → of_cards p c ≡ true → plan t (part_by p k) c ≡ plan_part (plan t k c)
  planned_command k (AReading e) s h = grind (arith, nat_tests, contains_by t p e k.readings h, step_by t p k (AReading e) s h)
  planned_command k (Watermark m) s h = grind (arith, nat_tests)

  pub planned_part : (k : Reference) (c : Call) → SortedReadings t k.readings → concerns p c ≡ true → planned t (part_by p k) c ≡ plan_part (planned t k c)
  planned_part k c s h =
      ⊎_elim
      (λ fine.
      first_none (call_faults t c) (plan t (part_by p k) (command_in c.command)) fine
      ∙ planned_command k (command_in c.command) s h
      ∙ sym (ap plan_part (first_none (call_faults t c) (plan t k (command_in c.command)) fine)))
      (λ b. b.first _ ∙ sym (ap plan_part (b.first _)))
      (which_comes OpenRefusal (call_faults t c) (call_only t c))

  pub planned_other : (k : Reference) (c : Call) → SortedReadings t k.readings → concerns p c ≡ false → part_by p (state_by k (planned t k c)) ≡ part_by p k
  planned_other k c s h = planned_by t k c (λ j. part_by p j ≡ part_by p k) refl (λ _. step_other t p k (command_in c.command) h)

  pub state_part : (k : Reference) (r : Result Reference Refusal) → state_by (part_by p k) (plan_part r) ≡ part_by p (state_by k r)
  state_part k (Ok j) = refl
  state_part k (Err r) = refl

  -- So is what has changed.
  difference_part : (vs ws : List Visit) → difference t (visits_part p vs) (visits_part p ws) ≡ visits_part p (difference t vs ws)
  difference_part vs ws = grind (arith, nat_tests, some_kept, kept_agree, All-weaker, kept_by_passes, kept_commute)

  changes_part : (vs ws : List Visit) → changes t (visits_part p vs) (visits_part p ws) ≡ outcome_part p (changes t vs ws)
  changes_part vs ws = let a = difference_part vs ws in let b = difference_part ws vs in cc

  pub outcome_of_part : (k : Reference) (r : Result Reference Refusal) → SortedReadings t k.readings → SortedReadings t (state_by k r).readings
      → outcome_by t (part_by p k) (plan_part r) ≡ outcome_part p (outcome_by t k r)
  outcome_of_part k (Ok j) s n = grind (arith, nat_tests, part_by p j, closed_of_part t p k s, closed_of_part t p j n, changes_part (closed_of t k) (closed_of t j))
  outcome_of_part k (Err r) s n = refl
