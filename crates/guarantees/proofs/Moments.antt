-- After any calls: what the row holds, and which refusals do not come.
use Rattle.std.proofs.Common.{Err, ◌≡◌, ℕ, ◌+◌, ◌<◌, min, true, ◌||◌, eqb, ◌⊎◌, List, [], length, drop, None, sum_by, Result, sym, refl, ap, ◌∙◌, subst, ⊎_elim, arith}
use Rattle.std.proofs.lemmas.Bool.{eqb-true, lt-ltb, or_cases, true≢false}
use Rattle.visit.specs.declared.Reading.{Reading}
use Rattle.visit.specs.declared.Terms.{Terms}
use Rattle.command.specs.declared.Command.TheVariants.{Reading as AReading}
use Rattle.command.specs.declared.Refusal.{Refusal}
use Rattle.command.specs.Numbers.{Reply, number, reply_number}
use Rattle.command.specs.Outcomes.{reply_of}
use Rattle.model.specs.Kept.{Holds}
use Rattle.model.specs.Reference.{Reference, empty, outcome_by}
use Rattle.model.specs.Store.{Store}
use Rattle.model.proofs.Kept.{image_holds}
use Rattle.model.proofs.Mirror.{image}
use Rattle.model.proofs.Same.{reading_strict, same_members}
use Rattle.rows.specs.Limits.{count_limit, sum_limit}
use Rattle.store.specs.declared.capacity.Capacity.{Capacity}
use Rattle.store.specs.declared.header.Header.{Header}
use Rattle.store.specs.Applied.{Applied}
use Rattle.store.specs.Contents.{empty_row, header_in, header_of, store_in}
use Rattle.store.specs.Faults.{room_fault}
use Rattle.store.specs.Layout.{lines_room, readings_room, store_size, visits_room}
use Rattle.guarantees.specs.AnyTime.{AnyOrderSameRow, BadTermsRefused, FirstCallsSound, ReadingHasRoom, RowStands, StoreSound, WatermarkHasRoom, reference_now, row_now}
use Rattle.guarantees.specs.Calls.{Call, answer}
use Rattle.guarantees.specs.Faithful.{planned, withheld}
use Rattle.guarantees.specs.Rows.{Fits, clean_row}
use Rattle.guarantees.proofs.Along.{left_now}
use Rattle.guarantees.proofs.Clean.{clean_store}
use Rattle.guarantees.proofs.Growing.{bad_terms_planned, bad_terms_stay, reference_grows}
use Rattle.guarantees.proofs.Roomy.{watermark_free}
use Rattle.guarantees.proofs.Sound.{sound_now}
use Rattle.guarantees.proofs.Standing.{Heard, Withheld, one_call}

-- The row holds the store that stands for the reference.
pub held_now : (t : Terms) (xs : List ℕ) (calls : List Call) → store_in (row_now t xs calls) ≡ image t (reference_now t xs calls)
held_now t xs calls =
    let l = left_now t xs calls in
    ap store_in l.row ∙ clean_store t (image t (reference_now t xs calls)) (drop store_size xs) l.stands.roomy.fits

pub row_stands : RowStands
row_stands t xs calls =
    let l = left_now t xs calls in
    let k : Reference = reference_now t xs calls in
    let held = held_now t xs calls in
    record {
      kept = subst (λ (z : Store). Holds t z k) (sym held) (image_holds t k);
      ledger = ap (λ (z : Store). z.ledger) held;
      room = subst Fits (sym held) l.stands.roomy.fits;
      clean = l.row ∙ sym (ap (λ (z : Store). clean_row t z (drop store_size xs)) held);
    }

-- The row depends on the reference alone, and that on what was taken in.
pub any_order_same_row : AnyOrderSameRow
any_order_same_row t xs cs ds h = grind (arith, left_now t xs cs, left_now t xs ds, reading_strict t, same_members, image)

-- A call after others: heard, or withheld with a reason.
pub withheld_now : (t : Terms) (xs : List ℕ) (before : List Call) (c : Call) (P : Type 0) → withheld (answer (row_now t xs before) c).reply ≡ true
    → ((w : Withheld t (reference_now t xs before) (drop store_size xs) c) → (answer (row_now t xs before) c).reply ≡ Err w.refusal → P) → P
withheld_now t xs before c P hidden f =
    let l = left_now t xs before in
    let k : Reference = reference_now t xs before in
    let rest : List ℕ = drop store_size xs in
    let same : answer (row_now t xs before) c ≡ answer (clean_row t (image t k) rest) c = ap (λ (ys : List ℕ). answer ys c) l.row in
    ⊎_elim
    (λ (h : Heard t k rest c).
    let reply : (answer (row_now t xs before) c).reply ≡ reply_of (outcome_by t k (planned t k c)) = ap (λ (a : Applied). a.reply) (same ∙ h.answered) in
    absurd (true≢false (sym hidden ∙ ap withheld reply ∙ h.heard)))
    (λ (w : Withheld t k rest c). f w (ap (λ (a : Applied). a.reply) (same ∙ w.answered)))
    (one_call t k l.stands rest c)

withheld_by : (n : ℕ) (r : Reply) → reply_number r ≡ n → (eqb n 1 || eqb n 7) ≡ true → withheld r ≡ true
withheld_by n r e h = grind arith

pub watermark_has_room : WatermarkHasRoom
watermark_has_room t xs before c m q e =
    withheld_now t xs before c ⊥ (withheld_by 7 (answer (row_now t xs before) c).reply e refl)
    (λ w reply.
    let k : Reference = reference_now t xs before in
    let free = watermark_free t (image t k) (left_now t xs before).stands.roomy c.capacity m in
    w.no_room (sym (ap reply_number reply) ∙ e) (ap (room_fault c.capacity (header_of t (image t k)) (image t k)) q ∙ free))

reading_free : (cap : Capacity) (h : Header) (z : Store) (e : Reading) → h.visits < min cap.visits visits_room → h.readings < min cap.readings readings_room
    → h.lines + h.visits < lines_room → room_fault cap h z (AReading e) ≡ None
reading_free cap h z e v r l =
    simp (lt-ltb h.visits (min cap.visits visits_room) v, lt-ltb h.readings (min cap.readings readings_room) r, lt-ltb (h.lines + h.visits) lines_room l)

pub reading_has_room : ReadingHasRoom
reading_has_room t xs before c e q v r l seven =
    withheld_now t xs before c ⊥ (withheld_by 7 (answer (row_now t xs before) c).reply seven refl)
    (λ w reply.
    let k : Reference = reference_now t xs before in
    let h : Header = header_of t (image t k) in
    let same : header_in (row_now t xs before) ≡ h = ap header_in (left_now t xs before).row in
    let free : room_fault c.capacity h (image t k) (AReading e) ≡ None =
    subst (λ (y : Header). room_fault c.capacity y (image t k) (AReading e) ≡ None) same (reading_free c.capacity (header_in (row_now t xs before)) (image t k) e v r l) in
    w.no_room (sym (ap reply_number reply) ∙ seven) (ap (room_fault c.capacity h (image t k)) q ∙ free))

pub store_sound : StoreSound
store_sound t xs before c few small e =
    withheld_now t xs before c ⊥ (withheld_by 1 (answer (row_now t xs before) c).reply e refl)
    (λ w reply. w.bad (sym (ap reply_number reply) ∙ e) (sound_now t (reference_now t xs before) (left_now t xs before).stands few small (drop store_size xs)))

pub first_calls_sound : FirstCallsSound
first_calls_sound t xs before c h =
    let grown = reference_grows t empty (empty_row t xs) before in
    store_sound t xs before c (omega arith) (omega arith)

-- A number that is withheld is 1 or 7.
pub withheld_is : (r : Refusal) → withheld (Err r) ≡ true → (number r ≡ 1) ⊎ (number r ≡ 7)
withheld_is r h = grind (arith, or_cases (eqb (number r) 1) (eqb (number r) 7) h, eqb-true)

pub bad_terms_refused : BadTermsRefused
bad_terms_refused t xs before c r h =
    let l = left_now t xs before in
    let k : Reference = reference_now t xs before in
    let rest : List ℕ = drop store_size xs in
    let none : k.readings ≡ [] = ap (λ (j : Reference). j.readings) (bad_terms_stay t empty r h (empty_row t xs) before) in
    let few : length k.readings < count_limit = subst (λ (es : List Reading). length es < count_limit) (sym none) (omega arith) in
    let small : sum_by (λ e. e.amount) k.readings < sum_limit = subst (λ (es : List Reading). sum_by (λ e. e.amount) es < sum_limit) (sym none) (omega arith) in
    ap (λ (ys : List ℕ). (answer ys c).reply) l.row
    ∙ ⊎_elim
    (λ (o : Heard t k rest c). ap (λ (a : Applied). a.reply) o.answered ∙ ap (λ (p : Result Reference Refusal). reply_of (outcome_by t k p)) (bad_terms_planned t k c r h))
    (λ (w : Withheld t k rest c).
    absurd
    (⊎_elim (λ one. w.bad one (sound_now t k l.stands few small rest)) (λ seven. let z : ◌≡◌ {A = ℕ} 0 1 = cc ((w.full seven).0, h) in omega arith) (withheld_is w.refusal w.unheard)))
    (one_call t k l.stands rest c)
