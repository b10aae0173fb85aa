-- What a reading that is handed over does to the row, and that each row is needed.
use Rattle.std.proofs.Common.{◌≡◌, ℕ, ◌<◌, false, List, [], ◌∷◌, length, drop, Some, None, Option, sym, refl, ap, ◌∙◌, subst, arith}
use Rattle.std.specs.List.{ContainsAt as Has, AllByRecursion}
use Rattle.std.proofs.ByRecursion.{all_kept_by, All-weaker}
use Rattle.std.proofs.lemmas.Bool.{both_ways, le-ltb, lt-ltb}
use Rattle.std.proofs.lemmas.Bool.Decides.{nat_tests}
use Rattle.visit.specs.declared.Reading.{Reading}
use Rattle.visit.specs.declared.Terms.{Terms}
use Rattle.visit.specs.declared.Visit.{Visit}
use Rattle.visit.specs.Readings.{kept, same_reading, too_late}
use Rattle.visit.specs.Visits.{live}
use Rattle.command.specs.declared.Command.{Command}
use Rattle.command.specs.declared.Command.TheVariants.{Reading as AReading, Watermark}
use Rattle.command.specs.declared.Refusal.{Refusal}
use Rattle.command.specs.declared.Refusal.TheVariants.{Duplicate}
use Rattle.visit.specs.Limits.{time_limit}
use Rattle.command.specs.Bounds.{command_fault, terms_fault, word_limit}
use Rattle.command.specs.Numbers.{reply_number}
use Rattle.command.specs.Outcomes.{refused, reply_of}
use Rattle.model.specs.Kept.{ChangesVisit, MayChange}
use Rattle.model.specs.Reference.{Reference, empty, plan, state_by, step}
use Rattle.model.specs.Sessions.{contains, prepend, visits}
use Rattle.model.specs.Store.{Store, store_outcome, store_step}
use Rattle.model.proofs.Adding.{in_decides}
use Rattle.model.proofs.Common.{all_both}
use Rattle.model.proofs.Kept.{image_needs}
use Rattle.model.proofs.Mirror.{image, outcome_mirror, step_mirror}
use Rattle.model.proofs.Order.{all_insert}
use Rattle.changes.specs.Room.{out_width}
use Rattle.store.specs.Contents.{empty_row, store_in}
use Rattle.command.specs.Cells.{command_in}
use Rattle.store.specs.Layout.{store_size}
use Rattle.guarantees.specs.AnyTime.{reference_now, row_now}
use Rattle.guarantees.specs.Calls.{Call, answer}
use Rattle.guarantees.specs.Faithful.{call_faults, next, planned, withheld}
use Rattle.guarantees.specs.Needed.{AllNeeded, HandsOver, RowMayChange, RefusedAgain, RowNothingInVain, WithinBounds, with_amount}
use Rattle.guarantees.specs.Rows.{clean_row}
use Rattle.guarantees.proofs.Along.{left_now, moved, next_heard}
use Rattle.guarantees.proofs.Clean.{clean_store}
use Rattle.guarantees.proofs.Growing.{bad_terms_stay}
use Rattle.guarantees.proofs.Keeping.{reference_keeps}
use Rattle.guarantees.proofs.Moments.{held_now}
use Rattle.guarantees.proofs.Refusing.{first_none}
use Rattle.guarantees.proofs.Standing.{Standing}
use Rattle.guarantees.proofs.Sums.{visit_times}

-- Every reading taken in was within its bounds, and so is the card of every visit.
abbrev Bounded : Reading → Type 0
Bounded e = command_fault (AReading e) ≡ None

step_bounded : (t : Terms) (k : Reference) (c : Command) → command_fault c ≡ None → AllByRecursion Bounded k.readings → AllByRecursion Bounded (step t k c).readings
step_bounded t k (AReading e) b a = grind (arith, nat_tests, all_insert t Bounded e k.readings b a)
step_bounded t k (Watermark m) b a = grind (arith, nat_tests)

bounded_now : (t : Terms) (xs : List ℕ) (calls : List Call) → AllByRecursion Bounded (reference_now t xs calls).readings
bounded_now t xs calls = reference_keeps t (λ k. AllByRecursion Bounded k.readings) (step_bounded t) empty (empty_row t xs) calls tt

card_within : (e : Reading) → Bounded e → e.card < word_limit
card_within e b = grind (arith, nat_tests)

prepend_cards : (t : Terms) (n : ℕ) (e : Reading) (vs : List Visit) → e.card < n → AllByRecursion (λ v. v.card < n) vs → AllByRecursion (λ v. v.card < n) (prepend t e vs)
prepend_cards t n e [] h a = (h, tt)
prepend_cards t n e (v ∷ vs) h a = grind (arith, nat_tests)

visit_cards : (t : Terms) (n : ℕ) (es : List Reading) → AllByRecursion (λ e. e.card < n) es → AllByRecursion (λ v. v.card < n) (visits t es)
visit_cards t n [] a = tt
visit_cards t n (e ∷ es) a = prepend_cards t n e (visits t es) a.0 (visit_cards t n es a.1)

-- A reading within its bounds, handed over.
bounded_by : (e : Reading) → e.card < word_limit → e.time < time_limit → e.serial < word_limit → e.amount < word_limit → Bounded e
bounded_by e c m s a = simp (lt-ltb e.card word_limit c, lt-ltb e.time time_limit m, lt-ltb e.serial word_limit s, lt-ltb e.amount word_limit a)

within : (t : Terms) (e : Reading) → terms_fault t ≡ None → Bounded e → WithinBounds t e
within t e f b cap out h = grind (arith, nat_tests, le-ltb (length out) out_width h)

-- A kept reading with another amount is as much a duplicate.
late_alike : (t : Terms) (m n : ℕ) (e : Reading) → too_late t m (with_amount n e) ≡ too_late t m e
unfolding too_late
late_alike t m n e = refl

same_alike : (t : Terms) (n : ℕ) (e x : Reading) → same_reading t (with_amount n e) x ≡ same_reading t e x
unfolding same_reading
same_alike t n e x = refl

contains_alike : (t : Terms) (n : ℕ) (e : Reading) (xs : List Reading) → contains t (with_amount n e) xs ≡ contains t e xs
contains_alike t n e [] = refl
contains_alike t n e (x ∷ xs) = simp (same_alike t n e x, contains_alike t n e xs)

duplicate_alike : (t : Terms) (s : Store) (n : ℕ) (e : Reading) → store_outcome t s (AReading e) ≡ refused (Duplicate e.time)
    → store_outcome t s (AReading (with_amount n e)) ≡ refused (Duplicate e.time)
duplicate_alike t s n e h = grind (arith, nat_tests, late_alike t s.watermark n e, contains_alike t n e s.seen)

taken_number : (t : Terms) (s : Store) (v : Visit) (e : Reading) → ChangesVisit t s v e → reply_number (reply_of (store_outcome t s (AReading e))) ≡ 0
taken_number t s v e h = grind (arith, nat_tests)

module _ (t : Terms) (k : Reference) (s : Standing t k) (rest : List ℕ) where
  abbrev row : List ℕ
  row = clean_row t (image t k) rest

  abbrev holds : store_in row ≡ image t k
  holds = clean_store t (image t k) rest s.roomy.fits

  -- The store does by its rules what is asked, and the row holds what it then is.
  handed_reply : (e : Reading) (c : Call) → HandsOver t e c → withheld (answer row c).reply ≡ false → (answer row c).reply ≡ reply_of (store_outcome t (image t k) (AReading e))
  handed_reply e c h o = grind (arith, nat_tests, first_none (call_faults t c) (plan t k (command_in c.command)) h.fine, moved t k s rest c, outcome_mirror t k s.sorted (AReading e))

  handed_store : (e : Reading) (c : Call) → HandsOver t e c → withheld (answer row c).reply ≡ false → store_in (answer row c).store ≡ store_step t (image t k) (AReading e)
  handed_store e c h o =
      let p : planned t k c ≡ plan t k (AReading e) = first_none (call_faults t c) (plan t k (command_in c.command)) h.fine ∙ ap (plan t k) h.reading in
      let m = moved t k s rest c in
      ap store_in m.store
      ∙ clean_store t (image t (next t k c (answer row c).reply)) rest m.stands.roomy.fits
      ∙ ap (image t) (next_heard t k c (answer row c).reply o ∙ ap (state_by k) p)
      ∙ sym (step_mirror t k s.sorted (AReading e))

  module _ (sound : terms_fault t ≡ None) (bounded : AllByRecursion Bounded k.readings) where
    abbrev WithinLimits : Visit → Type 0
    WithinLimits v = (v.card < word_limit) × ((v.from < time_limit) × (v.to < time_limit))

    live_within : AllByRecursion WithinLimits (image t k).live
    live_within =
        all_kept_by (live t k.watermark) WithinLimits (visits t k.readings)
        (all_both (λ v. v.card < word_limit) (λ v. (v.from < time_limit) × (v.to < time_limit)) (visits t k.readings)
        (visit_cards t word_limit k.readings (All-weaker Bounded (λ e. e.card < word_limit) card_within k.readings bounded)) (visit_times t time_limit k.readings s.times))

    changes_row : (v : Visit) → WithinLimits v × MayChange t (image t k) v → RowMayChange t row v
    changes_row v h =
        let e : Reading = h.1.0 in
        let q : ChangesVisit t (image t k) v e = h.1.1 in
        let few = s.roomy.fits.readings in
        let low = s.watermark in
        let b : Bounded e = bounded_by e (omega (arith, q.card, h.0.0)) (omega (arith, q.time, h.0.1.1)) (omega (arith, q.serial)) (omega (arith, q.amount)) in (
          e,
          record {
            rules = subst (λ (z : Store). ChangesVisit t z v e) (sym holds) q;
            bounds = within t e sound b;
            done = λ c over o. ap reply_number (handed_reply e c over o) ∙ taken_number t (image t k) v e q;
            gone = λ c over o has.
                both_ways _ q.changes ((in_decides t v (store_step t (image t k) (AReading e)).live).1 (subst (λ (z : Store). Has z.live v) (handed_store e c over o) has));
          },
        )

    again : (e : Reading) → Bounded e × (store_outcome t (image t k) (AReading e) ≡ refused (Duplicate e.time)) → RefusedAgain t row e
    again e h =
        record {
          bounds = within t e sound h.0;
          again = λ n c over o. handed_reply (with_amount n e) c over o ∙ ap reply_of (duplicate_alike t (image t k) n e h.1);
        }

    needed : AllNeeded t row
    needed =
        let all = image_needs t k s.sorted in
        let live_ones : List Visit = (image t k).live in
        let kept_ones : List Reading = (image t k).seen in
        record {
          visits =
              subst (λ (z : Store). AllByRecursion (RowMayChange t row) z.live) (sym holds)
              (All-weaker (λ v. WithinLimits v × MayChange t (image t k) v) (RowMayChange t row) changes_row live_ones (all_both WithinLimits (MayChange t (image t k)) live_ones live_within all.visits));
          readings =
              subst (λ (z : Store). AllByRecursion (RefusedAgain t row) z.seen) (sym holds)
              (All-weaker (λ e. Bounded e × (store_outcome t (image t k) (AReading e) ≡ refused (Duplicate e.time))) (RefusedAgain t row) again kept_ones
              (all_both Bounded (λ e. store_outcome t (image t k) (AReading e) ≡ refused (Duplicate e.time)) kept_ones (all_kept_by (kept t k.watermark) Bounded k.readings bounded) all.readings));
        }

-- With terms out of bounds nothing is kept.
needed_by : (t : Terms) (xs : List ℕ) (calls : List Call) (o : Option Refusal) → terms_fault t ≡ o → AllNeeded t (row_now t xs calls)
needed_by t xs calls None f =
    let l = left_now t xs calls in
    subst (AllNeeded t) (sym l.row) (needed t (reference_now t xs calls) l.stands (drop store_size xs) f (bounded_now t xs calls))
needed_by t xs calls (Some r) f = grind (arith, nat_tests, image t empty, held_now t xs calls, image t, bad_terms_stay t empty r f (empty_row t xs) calls)

pub row_nothing_in_vain : RowNothingInVain
row_nothing_in_vain t xs calls = needed_by t xs calls (terms_fault t) refl
