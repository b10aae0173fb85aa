-- What passed checks allow: the command can be drafted and finished, and every sum fits in 64 bits.
use Rattle.std.proofs.Common.{◌≡◌, ℕ, ◌+◌, ◌^◌, ◌<◌, ◌≤◌, min, Bool, true, false, cond, not, ltb, leb, List, [], ◌∷◌, length, Some, None, filter, Option, refl, ap, arith}
use Rattle.std.specs.List.{AllByRecursion}
use Rattle.std.proofs.ByRecursion.{All-weaker}
use Rattle.std.proofs.lemmas.List.Filters.{sum_by-filter_both}
use Rattle.std.proofs.lemmas.List.Sums.{sum_by-cons}
use Rattle.std.proofs.lemmas.Bool.{leb-true, ltb-true}
use Rattle.std.proofs.lemmas.Bool.Decides.{nat_tests}
use Rattle.visit.specs.declared.Line.{Line}
use Rattle.visit.specs.declared.Reading.{Reading}
use Rattle.visit.specs.declared.Terms.{Terms}
use Rattle.visit.specs.declared.Visit.{Visit}
use Rattle.visit.specs.Readings.{too_late}
use Rattle.visit.specs.Visits.{closed, merged, same_visit, single}
use Rattle.command.specs.declared.Command.TheVariants.{Reading as AReading, Watermark}
use Rattle.command.specs.declared.Refusal.TheVariants.{BadCommand, Full}
use Rattle.visit.specs.Limits.{time_limit}
use Rattle.command.specs.Bounds.{command_fault, fields, first_over as first_field, word_limit}
use Rattle.command.specs.Outcomes.{Outcome, changed, refused}
use Rattle.model.specs.Sessions.{closed_visits, difference, insert_reading, some}
use Rattle.model.specs.Store.{Store, merge_in}
use Rattle.model.proofs.Common.{kept_shorter}
use Rattle.rows.specs.Limits.{first_over}
use Rattle.rows.specs.Lines.{line_cells, line_limits}
use Rattle.rows.proofs.Overs.{mapped_none}
use Rattle.rows.proofs.Within.{VisitWithin, counts_within, sums_within}
use Rattle.ledger.specs.Fits.{Fits, FitsIn}
use Rattle.visit.specs.Sums.{counts, sums}
use Rattle.live.specs.Tables.{open_only}
use Rattle.live.proofs.Parts.{length_merged, length_parts}
use Rattle.changes.specs.Changed.{newly_closed}
use Rattle.changes.proofs.Counts.{merging_fewer}
use Rattle.changes.proofs.Differences.{only_newly_closed}
use Rattle.store.specs.declared.capacity.Capacity.{Capacity}
use Rattle.store.specs.declared.header.Header.{Header}
use Rattle.store.specs.Faults.{room_fault}
use Rattle.store.specs.Header.{Counted}
use Rattle.store.specs.Layout.{lines_room, readings_room, visits_room}
use Rattle.store.specs.Steps.{Performable}

-- A line within its limits.
pub small_line : (l : Line) → first_over 0 line_limits (line_cells l) ≡ None → (l.visits ≤ 2 ^ 40) × (l.sum ≤ 2 ^ 52)
small_line l e = (grind (arith, nat_tests), grind (arith, nat_tests))

-- A test that lets more pass.
kept_fewer : (p q : Visit → Bool) (vs : List Visit) → ((v : Visit) → p v ≡ true → q v ≡ true) → length (filter p vs) ≤ length (filter q vs)
kept_fewer p q [] h = omega arith
kept_fewer p q (v ∷ vs) h = grind (arith, h v, kept_fewer p q vs h)

pub length_inserted : (t : Terms) (e : Reading) (xs : List Reading) → length (insert_reading t e xs) ≡ length xs + 1
length_inserted t e [] = refl
length_inserted t e (x ∷ xs) = grind (arith, nat_tests, length_inserted t e xs)

-- Merging loses nothing.
pub sums_merged : (t : Terms) (v : Visit) (vs : List Visit) → sums (merge_in t v vs) ≡ sums vs + v.sum
sums_merged t v [] = omega (arith, sum_by-cons (λ (u : Visit). u.sum) v [])
sums_merged t v (w ∷ ws) =
    let f : Visit → ℕ = λ u. u.sum in
    grind (arith, sums_merged t (merged v w) ws, sums_merged t v ws, sum_by-cons f w ws, sum_by-cons f w (merge_in t v ws), sum_by-cons f v (w ∷ ws))

abbrev added_part : Outcome → List Visit
added_part (changed gone new) = new
added_part (refused r) = []

-- What is added is among the visits of the draft.
pub new_sums : (t : Terms) (a b : ℕ) (vs ws : List Visit) → sums (difference t (closed_visits t a vs) (closed_visits t b ws)) ≤ sums vs
new_sums t a b vs ws =
    let f : Visit → ℕ = λ u. u.sum in
    let kept = λ (p : Visit → Bool) (us : List Visit). sum_by-filter_both p (λ v. not (p v)) (λ _. refl) f us in
    omega (arith, kept (λ v. not (some (same_visit t v) (closed_visits t b ws))) (closed_visits t a vs), kept (closed t a) vs)

pub new_few : (t : Terms) (from to : ℕ) (vs : List Visit) → from ≤ to → length (difference t (closed_visits t to vs) (closed_visits t from vs)) ≤ length (open_only t from vs)
new_few t from to vs h =
    let is : difference t (closed_visits t to vs) (closed_visits t from vs) ≡ filter (newly_closed t from to) vs = ap added_part (only_newly_closed t from to vs h) in
    rw is (kept_fewer (newly_closed t from to) (λ v. not (closed t from v)) vs (λ v o. grind (arith, nat_tests)))

-- The lines have room for k more visits of the sum s.
pub fits_lines : (k s : ℕ) (ls : List Line) → k ≤ 2 ^ 20 → s ≤ 2 ^ 63 → AllByRecursion (λ l. first_over 0 line_limits (line_cells l) ≡ None) ls → Fits k s ls
fits_lines k s ls few small all =
    record {
      visits = omega arith;
      sum = omega arith;
      lines = All-weaker (λ l. first_over 0 line_limits (line_cells l) ≡ None) (FitsIn k s) (λ l e. (omega (arith, (small_line l e).0), omega (arith, (small_line l e).1))) ls all;
    }

-- A test that found nothing.
pub passes : {X : Type 0} (b : Bool) (o : Option X) (x : X) → cond b o (Some x) ≡ None → (b ≡ true) × (o ≡ None)
passes true o x e = (refl, e)
passes false o x e = absurd (let z : ◌≡◌ {A = ℕ} 0 1 = cc e in omega arith)

-- A store within its limits.
pub record Within (h : Header) (s : Store) : Type 0 where
  pub counts : Counted h
  pub visits : length s.live ≡ h.visits
  pub readings : length s.seen ≡ h.readings
  pub live : AllByRecursion VisitWithin s.live
  pub ledger : AllByRecursion (λ l. first_over 0 line_limits (line_cells l) ≡ None) s.ledger

module _ (h : Header) (s : Store) (w : Within h s) where
  counts_fit : counts s.live ≤ 2 ^ 50
  counts_fit = omega (arith, counts_within s.live w.live, w.visits, w.counts.visits)

  sums_fit : sums s.live ≤ 2 ^ 62
  sums_fit = omega (arith, sums_within s.live w.live, w.visits, w.counts.visits)

  pub reading_allowed : (cap : Capacity) (e : Reading) → command_fault (AReading e) ≡ None → room_fault cap h s (AReading e) ≡ None → too_late h.clock.terms s.watermark e ≡ false
      → Performable h s (AReading e)
  reading_allowed cap e bounds room timely =
      let t = h.clock.terms in
      let vs = s.live in
      let card = passes (ltb e.card word_limit) _ 1 (mapped_none BadCommand (first_field 1 (fields (AReading e))) bounds) in
      let time = passes (ltb e.time time_limit) _ 2 card.1 in
      let serial = passes (ltb e.serial word_limit) _ 3 time.1 in
      let amount = ltb-true e.amount word_limit (passes (ltb e.amount word_limit) None 4 serial.1).0 in
      let visit_free = passes (ltb h.visits (min cap.visits visits_room)) _ (Full 4) room in
      let reading_free = passes (ltb h.readings (min cap.readings readings_room)) _ (Full 5) visit_free.1 in
      let line_free = passes (ltb (h.lines + h.visits) lines_room) None (Full 6) reading_free.1 in
      let v_room : h.visits < visits_room = omega (arith, ltb-true _ _ visit_free.0) in
      let r_room : h.readings < readings_room = omega (arith, ltb-true _ _ reading_free.0) in
      let l_room : h.lines + h.visits < lines_room = ltb-true _ _ line_free.0 in
      let few = (merging_fewer t s.watermark (single e) vs _ _ refl).1 in
      let merged_sum = sums_merged t (single e) vs in
      let added_sum = new_sums t s.watermark s.watermark (merge_in t (single e) vs) vs in
      record {
        counts = w.counts;
        draftable = (v_room, r_room, timely, record { count = omega (arith, counts_fit); sum = omega (arith, sums_fit) });
        visits = omega (arith, length_merged t (single e) vs, length_parts t (single e) vs, w.visits);
        readings = omega (arith, length_inserted t e s.seen, w.readings);
        lines = omega (arith, few);
        fits = fits_lines _ _ s.ledger (omega (arith, few)) (omega (arith, added_sum, merged_sum, sums_fit)) w.ledger;
      }

  pub watermark_allowed : (cap : Capacity) (m : ℕ) → room_fault cap h s (Watermark m) ≡ None → h.clock.watermark ≤ m → s.watermark ≡ h.clock.watermark → Performable h s (Watermark m)
  watermark_allowed cap m room order same =
      let t = h.clock.terms in
      let vs = s.live in
      let l_room : h.lines + length (open_only t h.clock.watermark vs) ≤ lines_room = leb-true _ _ (passes (leb (h.lines + length (open_only t h.clock.watermark vs)) lines_room) None (Full 6) room).0 in
      let few = new_few t s.watermark m vs (omega arith) in
      let still = ap (λ k. length (open_only t k vs)) same in
      let less = kept_shorter (λ v. not (closed t s.watermark v)) vs in
      let added_sum = new_sums t m s.watermark vs vs in
      record {
        counts = w.counts;
        draftable = omega (arith, order, same);
        visits = omega (arith, w.visits, w.counts.visits);
        readings = omega (arith, w.readings, w.counts.readings);
        lines = omega (arith, few, still, l_room);
        fits = fits_lines _ _ s.ledger (omega (arith, few, less, w.visits, w.counts.visits)) (omega (arith, added_sum, sums_fit)) w.ledger;
      }
