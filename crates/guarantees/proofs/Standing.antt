-- A row that stands for a reference: what a call on it answers, and that it stands for the next reference after it.
use Rattle.std.proofs.Common.{◌≡◌, ℕ, ◌<◌, true, false, cond, ltb, ◌⊎◌, List, length, Some, None, Ok, Err, Option, Result, sym, refl, ap, ◌∙◌, subst, inl, inr, ⊎_elim, arith}
use Rattle.std.specs.List.{AllByRecursion}
use Rattle.std.proofs.lemmas.Bool.{lt-ltb}
use Rattle.std.proofs.lemmas.Bool.Decides.{nat_tests}
use Rattle.visit.specs.declared.Reading.{Reading}
use Rattle.visit.specs.declared.Terms.{Terms}
use Rattle.command.specs.declared.Command.{Command}
use Rattle.command.specs.declared.Command.TheVariants.{Reading as AReading, Watermark}
use Rattle.command.specs.declared.Refusal.{Refusal}
use Rattle.command.specs.declared.Refusal.TheVariants.{BadTerms}
use Rattle.visit.specs.Limits.{time_limit}
use Rattle.command.specs.Bounds.{command_fault, terms_fault}
use Rattle.command.specs.Numbers.{number}
use Rattle.command.specs.Outcomes.{Outcome, reply_of}
use Rattle.model.specs.Reference.{Reference, closed_of, empty, ledger_of, or_fault, outcome_by, plan, state_by}
use Rattle.model.specs.Sessions.{changes}
use Rattle.model.specs.Store.{Draft, Store, closed_after, closed_before, draft, finish}
use Rattle.model.proofs.Mirror.{Goes_on, GoesOnBy, changes_mirror, draft_mirror, drafted, drafted_by, finish_mirror, image, plan_goes_on}
use Rattle.model.proofs.Order.{SortedReadings, all_insert}
use Rattle.store.specs.declared.capacity.Capacity.{Capacity}
use Rattle.store.specs.Applied.{Applied, applied_by, outcome_in}
use Rattle.store.specs.Contents.{header_of, row_after, store_in}
use Rattle.command.specs.Cells.{command_in, row_fault}
use Rattle.store.specs.Faults.{first_fault, out_fault, room_fault, store_faults, verdict}
use Rattle.guarantees.specs.Calls.{Call, answer}
use Rattle.guarantees.specs.Faithful.{call_faults, next, out_after, planned, withheld}
use Rattle.guarantees.specs.Rows.{clean_row}
use Rattle.guarantees.proofs.Clean.{clean_after, clean_store}
use Rattle.guarantees.proofs.Refusing.{IsBadStore, Comes, IsFull, OpenRefusal, call_only, first_none, room_only, sound_row, store_only, which_comes}
use Rattle.guarantees.proofs.Roomy.{LeavesRoom, Roomy, empty_roomy, leaves_room}

-- Readings within bounds and in order, the watermark too, and room in the store that stands for them.
pub record Standing (t : Terms) (k : Reference) : Type 0 where
  pub sorted : SortedReadings t k.readings
  pub watermark : k.watermark < time_limit
  pub times : AllByRecursion (λ e. e.time < time_limit) k.readings
  pub roomy : Roomy t (image t k)

pub empty_standing : (t : Terms) → Standing t empty
empty_standing t = grind (arith, nat_tests, empty_roomy t)

-- A command within bounds keeps watermark and times within them.
abbrev Within : Reference → Type 0
Within k = (k.watermark < time_limit) × AllByRecursion (λ e. e.time < time_limit) k.readings

abbrev WithinBy : Result Reference Refusal → Type 0
WithinBy (Ok k) = Within k
WithinBy (Err r) = Unit {0}

time_within : (e : Reading) → command_fault (AReading e) ≡ None → e.time < time_limit
time_within e h = grind (arith, nat_tests)

mark_within : (m : ℕ) → command_fault (Watermark m) ≡ None → m < time_limit
mark_within m h = grind (arith, nat_tests)

plan_within : (t : Terms) (k : Reference) (c : Command) → command_fault c ≡ None → Within k → WithinBy (plan t k c)
plan_within t k (AReading e) h w = grind (arith, nat_tests, all_insert t (λ x. x.time < time_limit) e k.readings (time_within e h) w.1, time_within e h)
plan_within t k (Watermark m) h w = grind (arith, nat_tests, mark_within m h)

-- The answer by what the reference plans, and the answer of a refusal.
abbrev pub answered_by : Terms → Reference → List ℕ → List ℕ → Result Reference Refusal → Applied
answered_by t k rest out p =
    record { reply = reply_of (outcome_by t k p); store = clean_row t (image t (state_by k p)) rest; out = out_after (outcome_by t k p) out }

abbrev pub refused_by : List ℕ → List ℕ → Refusal → Applied
refused_by xs out r = record { reply = Err r; store = xs; out = out }

same_applied : (a b : Applied) → a.reply ≡ b.reply → a.store ≡ b.store → a.out ≡ b.out → a ≡ b
same_applied a b p q r = grind (arith, nat_tests)

module _ (t : Terms) (k : Reference) (s : Standing t k) (rest : List ℕ) where
  abbrev row : List ℕ
  row = clean_row t (image t k) rest

  held : store_in row ≡ image t k
  held = clean_store t (image t k) rest s.roomy.fits

  -- A command that is taken.
  module _ (cap : Capacity) (c : Command) (sound : command_fault c ≡ None) (free : room_fault cap (header_of t (image t k)) (image t k) c ≡ None) where
    leaves : (next : Reference) → plan t k c ≡ Ok next → LeavesRoom t (image t k) (drafted t k.watermark next)
    leaves next q = leaves_room t (image t k) s.roomy cap c (drafted t k.watermark next) free (draft_mirror t k (ledger_of t k) s.sorted c ∙ ap (drafted_by t k.watermark) q)

    goes : (next : Reference) → plan t k c ≡ Ok next → Goes_on t k next
    goes next q = subst (GoesOnBy t k) q (plan_goes_on t k s.sorted c)

    finished : (next : Reference) → plan t k c ≡ Ok next → finish t (image t k) (drafted t k.watermark next) ≡ image t next
    finished next q = finish_mirror t k next s.sorted (goes next q)

    stands_on : (next : Reference) → plan t k c ≡ Ok next → Standing t next
    stands_on next q = grind (arith, nat_tests, plan_within t k c sound (s.watermark, s.times), goes next q, Roomy t, finished next q, leaves next q)

    taken : (out : List ℕ) (next : Reference) → plan t k c ≡ Ok next → applied_by row out (Ok (drafted t k.watermark next)) ≡ answered_by t k rest out (Ok next)
    taken out next q =
        let d : Draft = drafted t k.watermark next in
        let same : outcome_in row (Ok d) ≡ changes t (closed_of t k) (closed_of t next) =
        ap (λ (z : Store). changes t (closed_before t z) (closed_after t d)) held ∙ changes_mirror t k next (ledger_of t k) (goes next q) in
        same_applied (applied_by row out (Ok d)) (answered_by t k rest out (Ok next)) (ap reply_of same)
        (ap (λ (z : Store). row_after row d (finish t z d)) held
        ∙ clean_after t (image t k) rest s.roomy.fits d (finish t (image t k) d) (leaves next q).has
        ∙ ap (λ (z : Store). clean_row t z rest) (finished next q))
        (ap (λ (o : Outcome). out_after o out) same)

    by_plan : (out : List ℕ) (p : Result Reference Refusal) → plan t k c ≡ p
        → (applied_by row out (drafted_by t k.watermark p) ≡ answered_by t k rest out p) × Standing t (state_by k p)
    by_plan out (Ok next) q = (taken out next q, stands_on next q)
    by_plan out (Err r) q = (refl, s)

  -- The verdict, where nothing is wrong with the store: what is wrong with the call, want of room, and then what the store drafts.
  watermark_sound : cond (ltb k.watermark time_limit) None (Some (BadTerms 3)) ≡ None
  watermark_sound = let o = lt-ltb k.watermark time_limit s.watermark in simp o

  module _ (c : Call) where
    abbrev drafted_call : Result Draft Refusal
    drafted_call = draft t (image t k) (command_in c.command)

    abbrev no_room : Option Refusal
    no_room = room_fault c.capacity (header_of t (image t k)) (image t k) (command_in c.command)

    verdict_is : verdict c.capacity row c.command (length c.out) ≡ first_fault (store_faults row) (first_fault (call_faults t c) (or_fault no_room drafted_call))
    verdict_is =
        let R : Option Refusal = row_fault c.command in
        let O : Option Refusal = out_fault (length c.out) in
        let inner : Store → Result Draft Refusal = λ z. or_fault R (or_fault O (or_fault (room_fault c.capacity (header_of t (image t k)) z (command_in c.command)) (draft t z (command_in c.command)))) in
        ap (λ (w : Option Refusal). first_fault (store_faults row) (or_fault (terms_fault t) (or_fault w (inner (store_in row))))) watermark_sound
        ∙ ap (λ (z : Store). first_fault (store_faults row) (or_fault (terms_fault t) (inner z))) held

-- A command that reaches the reference's plan, or is refused on the way to it, is not withheld.
plan_open : (t : Terms) (k : Reference) (c : Command) → withheld (reply_of (outcome_by t k (plan t k c))) ≡ false
plan_open t k (AReading e) = grind (arith, nat_tests)
plan_open t k (Watermark m) = grind (arith, nat_tests)

-- The reference hears of a call: it has the same answer, and the row stands for its next state.
pub record Heard (t : Terms) (k : Reference) (rest : List ℕ) (c : Call) : Type 0 where
  pub heard : withheld (reply_of (outcome_by t k (planned t k c))) ≡ false
  pub answered : answer (clean_row t (image t k) rest) c ≡ answered_by t k rest c.out (planned t k c)
  pub stands : Standing t (state_by k (planned t k c))

-- Or it does not: something is wrong with the store, or there is no room and nothing else is wrong.
pub record Withheld (t : Terms) (k : Reference) (rest : List ℕ) (c : Call) : Type 0 where
  pub refusal : Refusal
  pub unheard : withheld (Err refusal) ≡ true
  pub answered : answer (clean_row t (image t k) rest) c ≡ refused_by (clean_row t (image t k) rest) c.out refusal
  pub bad : number refusal ≡ 1 → AllByRecursion (λ f. f ≡ None) (store_faults (clean_row t (image t k) rest)) → ⊥
  pub full : number refusal ≡ 7 → AllByRecursion (λ f. f ≡ None) (call_faults t c)
  pub no_room : number refusal ≡ 7 → room_fault c.capacity (header_of t (image t k)) (image t k) (command_in c.command) ≡ None → ⊥

module _ (t : Terms) (k : Reference) (s : Standing t k) (rest : List ℕ) (c : Call) where
  abbrev row_of_it : List ℕ
  row_of_it = clean_row t (image t k) rest

  abbrev the_verdict : Result Draft Refusal
  the_verdict = verdict c.capacity row_of_it c.command (length c.out)

  pub bad_store : Comes IsBadStore (store_faults row_of_it) → Withheld t k rest c
  bad_store b =
      let e : the_verdict ≡ Err b.refusal = verdict_is t k s rest c ∙ b.first _ in
      let one : number b.refusal ≡ 1 = ap number b.kind.1 in
      record {
        refusal = b.refusal;
        unheard = ap (λ (r : Refusal). withheld (Err r)) b.kind.1;
        answered = ap (applied_by row_of_it c.out) e;
        bad = λ _ sound. let z : ◌≡◌ {A = ℕ} 0 1 = cc (b.first {X = ℕ} (Ok 0), first_none {X = ℕ} (store_faults row_of_it) (Ok 0) sound) in omega arith;
        full = λ o. absurd (omega arith);
        no_room = λ o. absurd (omega arith);
      }

  wrong_call : AllByRecursion (λ f. f ≡ None) (store_faults row_of_it) → Comes OpenRefusal (call_faults t c) → Heard t k rest c
  wrong_call sound b =
      let e : the_verdict ≡ Err b.refusal = verdict_is t k s rest c ∙ first_none (store_faults row_of_it) _ sound ∙ b.first _ in
      let p : planned t k c ≡ Err b.refusal = b.first _ in
      record {
        heard = ap (λ (q : Result Reference Refusal). withheld (reply_of (outcome_by t k q))) p ∙ b.kind;
        answered = ap (applied_by row_of_it c.out) e ∙ sym (ap (answered_by t k rest c.out) p);
        stands = subst (λ (q : Result Reference Refusal). Standing t (state_by k q)) (sym p) s;
      }

  pub no_room_left : AllByRecursion (λ f. f ≡ None) (store_faults row_of_it) → AllByRecursion (λ f. f ≡ None) (call_faults t c) → (r : Refusal) × IsFull r × (no_room t k s rest c ≡ Some r) → Withheld t k rest c
  no_room_left sound fine f =
      let e : the_verdict ≡ Err f.0 =
      verdict_is t k s rest c ∙ first_none (store_faults row_of_it) _ sound ∙ first_none (call_faults t c) _ fine
      ∙ ap (λ (o : Option Refusal). or_fault o (drafted_call t k s rest c)) f.2 in
      let seven : number f.0 ≡ 7 = ap number f.1.1 in
      record {
        refusal = f.0;
        unheard = ap (λ (r : Refusal). withheld (Err r)) f.1.1;
        answered = ap (applied_by row_of_it c.out) e;
        bad = λ o. absurd (omega arith);
        full = λ _. fine;
        no_room = λ _ o. let z : ◌≡◌ {A = ℕ} 0 1 = cc (f.2, o) in omega arith;
      }

  by_reference : AllByRecursion (λ f. f ≡ None) (store_faults row_of_it) → AllByRecursion (λ f. f ≡ None) (call_faults t c) → no_room t k s rest c ≡ None → Heard t k rest c
  by_reference sound fine free =
      let command : Command = command_in c.command in
      let e : the_verdict ≡ drafted_by t k.watermark (plan t k command) =
      verdict_is t k s rest c ∙ first_none (store_faults row_of_it) _ sound ∙ first_none (call_faults t c) _ fine
      ∙ ap (λ (o : Option Refusal). or_fault o (drafted_call t k s rest c)) free ∙ draft_mirror t k (ledger_of t k) s.sorted command in
      let p : planned t k c ≡ plan t k command = first_none (call_faults t c) (plan t k command) fine in
      let b = by_plan t k s rest c.capacity command (sound_row c.command fine.1.0) free c.out (plan t k command) refl in
      record {
        heard = ap (λ (q : Result Reference Refusal). withheld (reply_of (outcome_by t k q))) p ∙ plan_open t k command;
        answered = ap (applied_by row_of_it c.out) e ∙ b.0 ∙ sym (ap (answered_by t k rest c.out) p);
        stands = subst (λ (q : Result Reference Refusal). Standing t (state_by k q)) (sym p) b.1;
      }

  pub one_call : Heard t k rest c ⊎ Withheld t k rest c
  one_call =
      ⊎_elim
      (λ sound. ⊎_elim
      (λ fine. ⊎_elim (λ free. inl (by_reference sound fine free)) (λ f. inr (no_room_left sound fine f)) (room_only IsFull (λ n. (n, refl)) c.capacity (header_of t (image t k)) (image t k) (command_in c.command)))
      (λ b. inl (wrong_call sound b))
      (which_comes OpenRefusal (call_faults t c) (call_only t c)))
      (λ b. inr (bad_store b))
      (which_comes IsBadStore (store_faults row_of_it) (store_only IsBadStore (λ n. (n, refl)) row_of_it))
