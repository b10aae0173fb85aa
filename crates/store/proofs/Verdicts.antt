-- From the checks to the definition: a refusal is the verdict's, and where none is found the draft stands and can be carried out.
use Rattle.std.proofs.Common.{◌≡◌, ℕ, ◌≤◌, Bool, true, false, cond, ltb, List, [], ◌∷◌, ◌++◌, length, get_or, Some, None, Ok, Err, Option, Result, sym, refl, ap, ◌∙◌, subst, arith}
use Rattle.std.specs.List.{AllByRecursion}
use Rattle.std.proofs.lemmas.List.Edits.{length-between}
use Rattle.std.proofs.lemmas.Bool.{ltb-false}
use Rattle.std.proofs.lemmas.Option.{none-some}
use Rattle.visit.specs.declared.Terms.{Terms}
use Rattle.visit.specs.Readings.{too_late}
use Rattle.command.specs.declared.Command.{Command}
use Rattle.command.specs.declared.Command.TheVariants.{Reading as AReading, Watermark}
use Rattle.command.specs.declared.Refusal.{Refusal}
use Rattle.command.specs.declared.Refusal.TheVariants.{BadCommand, BadStore, Backwards, ShortOut, TooLate}
use Rattle.command.specs.Bounds.{command_fault}
use Rattle.command.specs.Outcomes.{Outcome, reply_of}
use Rattle.model.specs.Store.{Store, draft, finish, store_outcome_by}
use Rattle.rows.specs.Lines.{line_laws, line_limited, line_limits}
use Rattle.rows.specs.Readings.{reading_made, reading_width}
use Rattle.rows.specs.Visits.{visit_laws, visit_limited, visit_limits, visit_made, visit_width}
use Rattle.rows.proofs.Overs.{mapped_none, none_over}
use Rattle.rows.proofs.Splits.{length_rows}
use Rattle.changes.specs.Out.{outcome_count, outcome_row, overlay}
use Rattle.changes.specs.Room.{out_width}
use Rattle.store.specs.declared.capacity.Capacity.{Capacity}
use Rattle.store.specs.declared.checks.Ready.{Ready}
use Rattle.store.specs.declared.header.Header.{Header}
use Rattle.store.specs.Applied.{outcome_in, row_by}
use Rattle.store.specs.Checks.{refusal_of}
use Rattle.store.specs.Contents.{header_in, parts_after, store_in, store_of, terms_in}
use Rattle.command.specs.Cells.{command_in, known_kind}
use Rattle.store.specs.Faults.{faults, first_fault, room_fault, store_faults, verdict}
use Rattle.store.specs.Layout.{lines_at, readings_at, store_size, visits_at}
use Rattle.store.specs.Parts.{Parts, parts, parts_from, whole}
use Rattle.store.specs.Steps.{Performable, before, changes_in, draft_in, draft_of}
use Rattle.store.proofs.Allowed.{Within, passes, reading_allowed, watermark_allowed}
use Rattle.store.proofs.Bounds.{counts_within}
use Rattle.store.proofs.Passing.{Passed}
use Rattle.store.proofs.Places.{fault_stands, none_found}

-- A test that found nothing, where its refusal stands first.
pub spared : {X : Type 0} (b : Bool) (x : X) (o : Option X) → cond b (Some x) o ≡ None → (b ≡ false) × (o ≡ None)
spared false x o e = (refl, e)
spared true x o e = absurd (none-some x (sym e))

pub spared_too : {X : Type 0} (b : Bool) (r : Refusal) (y : Result X Refusal) → refusal_of (cond b (Err r) y) ≡ None → (b ≡ false) × (refusal_of y ≡ None)
spared_too false r y e = (refl, e)
spared_too true r y e = absurd (none-some r (sym e))

pub all_front : {X : Type 0} (P : X → Type 0) (xs ys : List X) → AllByRecursion P (xs ++ ys) → AllByRecursion P xs
all_front P [] ys a = tt
all_front P (x ∷ xs) ys a = (a.0, all_front P xs ys a.1)

pub draft_stands : (t : Terms) (s : Store) (c : Command) → refusal_of (draft t s c) ≡ None → draft t s c ≡ Ok (draft_of t (before s) c)
draft_stands t s (AReading e) none = grind arith
draft_stands t s (Watermark m) none = grind arith

pub allowed_for : (cap : Capacity) (h : Header) (s : Store) → Within h s → s.watermark ≡ h.clock.watermark → (c : Command) → command_fault c ≡ None → room_fault cap h s c ≡ None
    → refusal_of (draft h.clock.terms s c) ≡ None → Performable h s c
allowed_for cap h s w same (AReading e) bounds room rules =
    reading_allowed h s w cap e bounds room (spared_too (too_late h.clock.terms s.watermark e) (TooLate e.time) _ rules).0
allowed_for cap h s w same (Watermark m) bounds room rules =
    let back = spared_too (ltb m s.watermark) (Backwards m) (Ok (draft_of h.clock.terms (before s) (Watermark m))) rules in
    watermark_allowed h s w cap m room (omega (arith, ltb-false _ _ back.0)) same

-- Parts without what stands behind them, and what stands behind them put back.
abbrev pub bare : Parts → Parts
bare p = parts_from p.header p.visits p.readings p.lines

abbrev pub with_rest : List ℕ → Parts → Parts
with_rest rest p = record { header = p.header; visits = p.visits; readings = p.readings; lines = p.lines; rest = rest }

-- A row that is no store is refused before anything else is looked at.
pub refused_unsound : (cap : Capacity) (xs cs : List ℕ) (out : ℕ) (r : Refusal) → Err r ≡ first_fault (store_faults xs) (Ok (tt {0})) → verdict cap xs cs out ≡ Err r
refused_unsound cap xs cs out r e = fault_stands (store_faults xs) (tt {0}) _ r (sym e)

module _ (cap : Capacity) (xs cs : List ℕ) (out : ℕ) (q : Ready) (ok : Passed cap xs cs out q) where
  abbrev h : Header
  h = header_in xs

  abbrev outcome_under : Header → Outcome
  outcome_under k = store_outcome_by k.clock.terms (store_of k (parts xs)) (Ok (draft_in q (parts xs)))

  pub size : store_size ≤ length xs
  size = ltb-false _ _ (spared (ltb (length xs) store_size) (BadStore (length xs)) None ok.none.0).0

  pub within : Within h (store_in xs)
  within =
      let counted = counts_within h (mapped_none BadStore _ ok.none.1.0) in
      let visits = ok.none.1.1.0 in
      let lines = ok.none.1.1.1.1.0 in
      record {
        counts = counted;
        visits = length_rows visit_width visit_made h.visits (parts xs).visits;
        readings = length_rows reading_width reading_made h.readings (parts xs).readings;
        live = none_over visit_laws visit_limits visit_limited visits_at h.visits (parts xs).visits (omega (arith, length-between xs visits_at readings_at (omega (arith, size)), counted.visits)) (mapped_none BadStore _ visits);
        ledger = none_over line_laws line_limits line_limited lines_at h.lines (parts xs).lines (omega (arith, length-between xs lines_at store_size size, counted.lines)) (mapped_none BadStore _ lines);
      }

  pub out_long : out_width ≤ out
  out_long = ltb-false _ _ (spared (ltb out out_width) (ShortOut out) None ok.none.1.1.1.1.1.1.1.1.0).0

  pub performs : Performable q.header (store_of q.header (parts xs)) q.command
  performs =
      let row = ok.none.1.1.1.1.1.1.1.0 in
      let long = spared (ltb (length cs) 5) (BadCommand (length cs)) _ row in
      let known = passes (known_kind (get_or cs 0 0)) _ (BadCommand 0) long.1 in
      let base = allowed_for cap h (store_in xs) within refl (command_in cs) known.1 ok.none.1.1.1.1.1.1.1.1.1.0 ok.none.1.1.1.1.1.1.1.1.1.1.0 in
      subst (λ (k : Header). Performable k (store_of k (parts xs)) q.command) (sym ok.header)
      (subst (λ (k : Command). Performable h (store_in xs) k) (sym ok.command) base)

  pub verdict_is : verdict cap xs cs out ≡ Ok (draft_in q (parts xs))
  verdict_is =
      let fs = faults cap xs cs out in
      let none = all_front (λ f. f ≡ None) fs (refusal_of (draft (terms_in xs) (store_in xs) (command_in cs)) ∷ []) ok.none in
      none_found fs (draft (terms_in xs) (store_in xs) (command_in cs)) none
      ∙ draft_stands (terms_in xs) (store_in xs) (command_in cs) ok.none.1.1.1.1.1.1.1.1.1.1.0
      ∙ ap (λ (k : Command). Ok (draft_of (terms_in xs) (before (store_in xs)) k)) (sym ok.command)
      ∙ ap (λ (k : Header). Ok (draft_of k.clock.terms (before (store_of k (parts xs))) q.command)) (sym ok.header)

  -- What was carried out in the parts is what the definition says.
  pub reply_is : (n : ℕ) → n ≡ outcome_count (changes_in q (parts xs)) → Ok n ≡ reply_of (outcome_in xs (verdict cap xs cs out))
  reply_is n e =
      ap Ok (e ∙ ap (λ (k : Header). outcome_count (outcome_under k)) ok.header) ∙ sym (ap (λ v. reply_of (outcome_in xs v)) verdict_is)

  pub store_is : (after : Parts) → after ≡ parts_after q.header (draft_in q (parts xs)) (finish q.header.clock.terms (store_of q.header (parts xs)) (draft_in q (parts xs))) (bare (parts xs))
      → whole (with_rest (parts xs).rest after) ≡ row_by xs (verdict cap xs cs out)
  store_is after e =
      let d = draft_in q (parts xs) in
      ap (λ (x : Parts). whole (with_rest (parts xs).rest x)) (e ∙ ap (λ (k : Header). parts_after k d (finish k.clock.terms (store_of k (parts xs)) d) (bare (parts xs))) ok.header)
      ∙ sym (ap (row_by xs) verdict_is)

  pub out_is : (was row : List ℕ) → row ≡ overlay (outcome_row (changes_in q (parts xs))) was → row ≡ overlay (outcome_row (outcome_in xs (verdict cap xs cs out))) was
  out_is was row e =
      e ∙ ap (λ (k : Header). overlay (outcome_row (outcome_under k)) was) ok.header ∙ sym (ap (λ v. overlay (outcome_row (outcome_in xs v)) was) verdict_is)
