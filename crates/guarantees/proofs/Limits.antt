-- Nothing is wrong with a row that holds a store just if no number of its rows is over its limit.
use Rattle.std.proofs.Common.{◌≡◌, ℕ, ◌+◌, ◌*◌, ◌≤◌, List, [], ◌∷◌, ◌++◌, length, None, Option, sym, refl, ap, ◌∙◌, subst, add-zero, arith}
use Rattle.std.specs.Option.{option_map}
use Rattle.std.specs.List.{repeat, AllByRecursion}
use Rattle.std.proofs.lemmas.List.{append_assoc, length-append}
use Rattle.std.proofs.lemmas.Bool.{le-ltb, lt-leb}
use Rattle.visit.specs.declared.Line.{Line}
use Rattle.visit.specs.declared.Reading.{Reading}
use Rattle.visit.specs.declared.Terms.{Terms}
use Rattle.visit.specs.declared.Visit.{Visit}
use Rattle.command.specs.declared.Refusal.{Refusal}
use Rattle.command.specs.declared.Refusal.TheVariants.{BadStore}
use Rattle.model.specs.Store.{Store}
use Rattle.rows.specs.Limits.{first_over}
use Rattle.rows.specs.Lines.{line_cells, line_laws, line_limited, line_limits}
use Rattle.rows.specs.Readings.{reading_cells, reading_laws, reading_limited, reading_limits}
use Rattle.rows.specs.Rows.{Laws, cells_of}
use Rattle.rows.specs.Visits.{visit_cells, visit_laws, visit_limited, visit_limits}
use Rattle.rows.proofs.Copying.{length_cells}
use Rattle.rows.proofs.Overs.{mapped_none, none_over, or_else, over_append, over_shift}
use Rattle.rows.proofs.Splits.{rows_of_cells}
use Rattle.store.specs.Contents.{header_of}
use Rattle.store.specs.Faults.{counts_fault, lines_fault, readings_fault, short_fault, store_faults, visits_fault}
use Rattle.store.specs.Layout.{lines_at, lines_room, readings_at, readings_room, store_size, visits_at, visits_room}
use Rattle.store.specs.Parts.{Parts, parts}
use Rattle.guarantees.specs.Rows.{Fits, clean_parts, clean_row}
use Rattle.guarantees.proofs.Clean.{clean_cut, clean_length}

-- No cell of the rows is over its limit just if none in the table is.
module _ {R : Type 0} {w : ℕ} {made : List ℕ → R} {cells : R → List ℕ} (laws : Laws w made cells) (ls : List (Option ℕ)) (limited : length ls ≡ w) where
  rows_sound : (i : ℕ) (rs : List R) (q : List ℕ) → AllByRecursion (λ r. first_over 0 ls (cells r) ≡ None) rs → first_over i (repeat (length rs) ls) (cells_of cells rs ++ q) ≡ None
  rows_sound i [] q a = refl
  rows_sound i (r ∷ rs) q a =
      let here : first_over i ls (cells r) ≡ None =
      ap (λ (n : ℕ). first_over n ls (cells r)) (sym (add-zero i)) ∙ over_shift i 0 ls (cells r) ∙ ap (option_map (λ (n : ℕ). i + n)) a.0 in
      ap (first_over i (ls ++ repeat (length rs) ls)) (append_assoc (cells r) (cells_of cells rs) q)
      ∙ over_append i ls (repeat (length rs) ls) (cells r) (cells_of cells rs ++ q) (limited ∙ sym (laws.long r))
      ∙ ap (λ (o : Option ℕ). or_else o (first_over (i + length (cells r)) (repeat (length rs) ls) (cells_of cells rs ++ q))) here
      ∙ rows_sound (i + length (cells r)) rs q a.1

  rows_small : (i : ℕ) (rs : List R) (q : List ℕ) → first_over i (repeat (length rs) ls) (cells_of cells rs ++ q) ≡ None → AllByRecursion (λ r. first_over 0 ls (cells r) ≡ None) rs
  rows_small i rs q e =
      let long : length rs * w ≤ length (cells_of cells rs ++ q) = omega (arith, length-append (cells_of cells rs) q, length_cells laws rs) in
      subst (AllByRecursion (λ r. first_over 0 ls (cells r) ≡ None)) (rows_of_cells laws rs q) (none_over laws ls limited i (length rs) (cells_of cells rs ++ q) long e)

-- Visits, readings and lines none of whose numbers is over its limit.
abbrev pub SmallVisit : Visit → Type 0
SmallVisit v = first_over 0 visit_limits (visit_cells v) ≡ None

abbrev pub SmallReading : Reading → Type 0
SmallReading e = first_over 0 reading_limits (reading_cells e) ≡ None

abbrev pub SmallLine : Line → Type 0
SmallLine l = first_over 0 line_limits (line_cells l) ≡ None

pub record Small (s : Store) : Type 0 where
  pub live : AllByRecursion SmallVisit s.live
  pub seen : AllByRecursion SmallReading s.seen
  pub ledger : AllByRecursion SmallLine s.ledger

module _ (t : Terms) (s : Store) (rest : List ℕ) (fits : Fits s) where
  abbrev row : List ℕ
  row = clean_row t s rest

  abbrev cut : parts row ≡ clean_parts t s rest
  cut = clean_cut t s rest fits

  short_sound : short_fault row ≡ None
  short_sound = let o = le-ltb (length row) store_size (omega (arith, clean_length t s rest fits)) in simp o

  counts_sound : counts_fault (header_of t s) ≡ None
  counts_sound =
      let v = lt-leb (visits_room + 1) (length s.live) (omega (arith, fits.visits)) in
      let r = lt-leb (readings_room + 1) (length s.seen) (omega (arith, fits.readings)) in
      let l = lt-leb (lines_room + 1) (length s.ledger) (omega (arith, fits.lines)) in
      simp (v, r, l)

  -- What the check of a table looks at.
  visits_looked : visits_fault (header_of t s) row ≡ option_map BadStore (first_over visits_at (repeat (length s.live) visit_limits) (clean_parts t s rest).visits)
  visits_looked = ap (λ (p : Parts). option_map BadStore (first_over visits_at (repeat (length s.live) visit_limits) p.visits)) cut

  readings_looked : readings_fault (header_of t s) row ≡ option_map BadStore (first_over readings_at (repeat (length s.seen) reading_limits) (clean_parts t s rest).readings)
  readings_looked = ap (λ (p : Parts). option_map BadStore (first_over readings_at (repeat (length s.seen) reading_limits) p.readings)) cut

  lines_looked : lines_fault (header_of t s) row ≡ option_map BadStore (first_over lines_at (repeat (length s.ledger) line_limits) (clean_parts t s rest).lines)
  lines_looked = ap (λ (p : Parts). option_map BadStore (first_over lines_at (repeat (length s.ledger) line_limits) p.lines)) cut

  pub clean_sound : Small s → AllByRecursion (λ f. f ≡ None) (store_faults row)
  clean_sound z =
      let bad : Option ℕ → Option Refusal = option_map BadStore in (
        short_sound,
        (
          counts_sound,
          (
            visits_looked ∙ ap bad (rows_sound visit_laws visit_limits visit_limited visits_at s.live _ z.live),
            (
              readings_looked ∙ ap bad (rows_sound reading_laws reading_limits reading_limited readings_at s.seen _ z.seen),
              (lines_looked ∙ ap bad (rows_sound line_laws line_limits line_limited lines_at s.ledger _ z.ledger), tt),
            ),
          ),
        ),
      )

  pub clean_small : AllByRecursion (λ f. f ≡ None) (store_faults row) → Small s
  clean_small a =
      record {
        live = rows_small visit_laws visit_limits visit_limited visits_at s.live _ (mapped_none BadStore _ (sym visits_looked ∙ a.1.1.0));
        seen = rows_small reading_laws reading_limits reading_limited readings_at s.seen _ (mapped_none BadStore _ (sym readings_looked ∙ a.1.1.1.0));
        ledger = rows_small line_laws line_limits line_limited lines_at s.ledger _ (mapped_none BadStore _ (sym lines_looked ∙ a.1.1.1.1.0));
      }
