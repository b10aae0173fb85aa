-- A store in a row and the reference print the same of the commands that are not withheld.
use Rattle.std.proofs.Common.{◌≡◌, ℕ, ◌≤◌, min, Bool, true, false, cond, List, [], ◌∷◌, ◌++◌, length, drop, replicate, IfSome, OnOk, None, Some, Option, Ok, Err, Result, sym, refl, ap, ◌∙◌, subst, arith}
use Rattle.std.specs.List.{flat_map, AllByRecursion}
use Rattle.std.proofs.lemmas.List.{append_assoc, length-replicate}
use Rattle.std.proofs.lemmas.Bool.{le-ltb}
use Rattle.visit.specs.declared.Terms.{Terms}
use Rattle.command.specs.declared.Command.{Command}
use Rattle.command.specs.declared.Command.TheVariants.{Reading as A-reading, Watermark}
use Rattle.command.specs.Outcomes.{Outcome, reply_of}
use Rattle.model.specs.Reference.{Reference, bounded_plan, empty, outcome_by, state_by}
use Rattle.model.specs.Store.{Store}
use Rattle.model.proofs.Common.{split}
use Rattle.model.proofs.Mirror.{image}
use Rattle.changes.specs.Out.{outcome_row, overlay}
use Rattle.changes.specs.Room.{out_width}
use Rattle.rows.specs.Lines.{lines_in}
use Rattle.store.specs.declared.capacity.Capacity.{Capacity}
use Rattle.store.specs.Contents.{empty_row, header_in}
use Rattle.command.specs.Cells.{command_in, command_cells}
use Rattle.store.specs.Layout.{lines_room, store_size}
use Rattle.store.specs.Parts.{parts}
use Rattle.guarantees.specs.Calls.{Call}
use Rattle.guarantees.specs.Faithful.{next, planned}
use Rattle.guarantees.specs.Rows.{Fits, clean_row}
use Rattle.guarantees.specs.Unhindered.{Whole}
use Rattle.guarantees.proofs.Along.{Moved, moved}
use Rattle.guarantees.proofs.Clean.{clean_length, clean_store, empty_clean}
use Rattle.guarantees.proofs.Runs.{planned_bounded}
use Rattle.guarantees.proofs.Standing.{Standing, empty_standing}
use Rattle.owned.specs.Rows.{lines_shown, outcome_to, row_then}
use Rattle.owned.proofs.Replies.{means}
use Rattle.feed.specs.Files.{body, commands}
use Rattle.feed.specs.Text.{ledger_text, outcome_text}
use Rattle.report.specs.SameText.{Begins, SameBeginning, SameText, SameTextHeard, first_heard, store_heard, store_outcomes, store_prints_heard, withheld_outcome}
use Rattle.report.specs.Texts.{reference_prints, settle_text, store_prints}
use Rattle.report.specs.Whole.{AsRecomputed, Reported}
use Rattle.std.specs.Io.KnownBytes.{Appends}
use Rattle.report.specs.Streams.{OfSource, Streamed, StreamedAsRecomputed}
use Rattle.report.specs.declared.streams.StreamError.{StreamError}
use Rattle.feed.specs.declared.whole.FileError.{FileError}
use Rattle.feed.specs.declared.whole.FileText.{FileText}
use Rattle.report.proofs.Printing.{prints_more}

-- The lines shown of a row that holds a store and nothing else are its ledger.
shown_clean : (t : Terms) (s : Store) (rest : List ℕ) → Fits s → lines_shown (clean_row t s rest) ≡ s.ledger
shown_clean t s rest fits =
    let xs : List ℕ = clean_row t s rest in
    let few : min (length s.ledger) lines_room ≡ length s.ledger = omega (arith, fits.lines) in
    ap (λ (b : Bool). cond b [] (lines_in (min (header_in xs).lines lines_room) (parts xs).lines)) (le-ltb (length xs) store_size (omega (arith, clean_length t s rest fits)))
    ∙ ap (λ (n : ℕ). lines_in n (parts xs).lines) few
    ∙ ap (λ (z : Store). z.ledger) (clean_store t s rest fits)

-- The lines before the first command that is withheld: the store's text begins with them.
abbrev lines_before : Capacity → ℕ → List ℕ → List Command → List ℕ
lines_before cap n xs cs = flat_map outcome_text (first_heard (store_outcomes cap n xs cs))

begins_none : (text : List ℕ) → Begins [] text
begins_none text = (text, refl)

begins_more : (front text more : List ℕ) → Begins front text → Begins (more ++ front) (more ++ text)
begins_more front text more b = (b.0, ap (λ (l : List ℕ). more ++ l) b.1 ∙ sym (append_assoc more front b.0))

store_begins : (cap : Capacity) (n : ℕ) (xs : List ℕ) (cs : List Command) → Begins (lines_before cap n xs cs) (store_prints cap n xs cs)
store_begins cap n xs [] = begins_none (store_prints cap n xs [])
store_begins cap n xs (c ∷ cs) =
    let o : Outcome = outcome_to cap xs n c in
    let ys : List ℕ = row_then cap xs n c in
    split (withheld_outcome o)
    (λ h. (store_prints cap n xs (c ∷ cs), cc h))
    (λ h. let more = begins_more (lines_before cap n ys cs) (store_prints cap n ys cs) (outcome_text o) (store_begins cap n ys cs) in let same = more.1 in (more.0, cc (h, same)))

-- Reply and row of changes leave one outcome.
same_outcome : (o p : Outcome) (out : List ℕ) → reply_of o ≡ reply_of p → overlay (outcome_row o) out ≡ overlay (outcome_row p) out → o ≡ p
same_outcome o p out e q =
    let row : List ℕ = overlay (outcome_row o) out in
    sym (means o (reply_of o) out row refl refl).outcome ∙ (means p (reply_of o) out row e q).outcome

-- A command's row is read as the command.
read_again : (c : Command) → command_in (command_cells c) ≡ c
read_again (A-reading e) = refl
read_again (Watermark m) = refl

module _ (cap : Capacity) (out : List ℕ) (room : out_width ≤ length out) (t : Terms) (rest : List ℕ) where
  abbrev call : Command → Call
  call c = record { capacity = cap; command = command_cells c; out = out }

  whole_call : (c : Command) → Whole (call c)
  whole_call (A-reading e) = record { numbers = omega arith; kind = refl; room = room }
  whole_call (Watermark m) = record { numbers = omega arith; kind = refl; room = room }

  -- The row that stands for a reference, and one command on it.
  abbrev row : Reference → List ℕ
  row k = clean_row t (image t k) rest

  module _ (k : Reference) (s : Standing t k) (c : Command) where
    abbrev outcome_here : Outcome
    outcome_here = outcome_to cap (row k) (length out) c

    abbrev row_here : List ℕ
    row_here = row_then cap (row k) (length out) c

    planned_here : planned t k (call c) ≡ bounded_plan t k c
    planned_here = planned_bounded t k (call c) (whole_call c) ∙ ap (bounded_plan t k) (read_again c)

    moved_here : Moved t k rest (call c)
    moved_here = moved t k s rest (call c)

    -- Not withheld, it has the reference's outcome and leaves the row of its next state; else it leaves the row as it is.
    heard_outcome : withheld_outcome outcome_here ≡ false → outcome_here ≡ outcome_by t k (bounded_plan t k c)
    heard_outcome h = same_outcome _ _ out (moved_here.right.reply h) (moved_here.right.out h) ∙ ap (outcome_by t k) planned_here

    next_heard : withheld_outcome outcome_here ≡ false → next t k (call c) (reply_of outcome_here) ≡ state_by k (bounded_plan t k c)
    next_heard h = ap (λ (b : Bool). cond b k (state_by k (planned t k (call c)))) h ∙ ap (state_by k) planned_here

    next_withheld : withheld_outcome outcome_here ≡ true → next t k (call c) (reply_of outcome_here) ≡ k
    next_withheld h = ap (λ (b : Bool). cond b k (state_by k (planned t k (call c)))) h

    heard_row : withheld_outcome outcome_here ≡ false → row_here ≡ row (state_by k (bounded_plan t k c))
    heard_row h = moved_here.store ∙ ap row (next_heard h)

    heard_stands : withheld_outcome outcome_here ≡ false → Standing t (state_by k (bounded_plan t k c))
    heard_stands h = subst (Standing t) (next_heard h) moved_here.stands

    withheld_row : withheld_outcome outcome_here ≡ true → row_here ≡ row k
    withheld_row h = moved_here.store ∙ ap row (next_withheld h)

  abbrev shown : List ℕ → List Command → List ℕ
  shown xs cs = store_prints_heard cap (length out) xs cs

  abbrev heard : List ℕ → List Command → List Command
  heard xs cs = store_heard cap (length out) xs cs

  same_heard : (k : Reference) → Standing t k → (cs : List Command) → shown (row k) cs ≡ reference_prints t k (heard (row k) cs)
  same_heard k s [] = ap ledger_text (shown_clean t (image t k) rest s.roomy.fits)
  same_heard k s (c ∷ cs) =
      let o : Outcome = outcome_here k s c in
      let p : Outcome = outcome_by t k (bounded_plan t k c) in
      let k' : Reference = state_by k (bounded_plan t k c) in
      let xs : List ℕ = row_here k s c in
      split (withheld_outcome o)
      (λ h.
      ap (λ (b : Bool). cond b [] (outcome_text o) ++ shown xs cs) h
      ∙ ap (λ (ys : List ℕ). shown ys cs) (withheld_row k s c h)
      ∙ same_heard k s cs
      ∙ ap (λ (ys : List ℕ). reference_prints t k (heard ys cs)) (sym (withheld_row k s c h))
      ∙ ap (λ (b : Bool). reference_prints t k (cond b (heard xs cs) (c ∷ heard xs cs))) (sym h))
      (λ h.
      ap (λ (b : Bool). cond b [] (outcome_text o) ++ shown xs cs) h
      ∙ ap (λ (q : Outcome). outcome_text q ++ shown xs cs) (heard_outcome k s c h)
      ∙ ap (λ (ys : List ℕ). outcome_text p ++ shown ys cs) (heard_row k s c h)
      ∙ ap (λ (bs : List ℕ). outcome_text p ++ bs) (same_heard k' (heard_stands k s c h) cs)
      ∙ sym (prints_more t t k k' p c (heard (row k') cs) refl refl refl)
      ∙ ap (λ (ys : List ℕ). reference_prints t k (c ∷ heard ys cs)) (sym (heard_row k s c h))
      ∙ ap (λ (b : Bool). reference_prints t k (cond b (heard xs cs) (c ∷ heard xs cs))) (sym h))

  -- Up to the first command that is withheld, the reference has the same lines.
  reference_begins : (k : Reference) → Standing t k → (cs : List Command) → Begins (lines_before cap (length out) (row k) cs) (reference_prints t k cs)
  reference_begins k s [] = begins_none (reference_prints t k [])
  reference_begins k s (c ∷ cs) =
      let o : Outcome = outcome_here k s c in
      let p : Outcome = outcome_by t k (bounded_plan t k c) in
      let k' : Reference = state_by k (bounded_plan t k c) in
      let xs : List ℕ = row_here k s c in
      let lines : Bool → List ℕ = λ b. flat_map outcome_text (cond b [] (o ∷ first_heard (store_outcomes cap (length out) xs cs))) in
      split (withheld_outcome o)
      (λ h. subst (λ (b : Bool). Begins (lines b) (reference_prints t k (c ∷ cs))) (sym h) (begins_none (reference_prints t k (c ∷ cs))))
      (λ h.
      subst (λ (b : Bool). Begins (lines b) (reference_prints t k (c ∷ cs))) (sym h)
      (subst (λ (q : Outcome). Begins (outcome_text q ++ lines_before cap (length out) xs cs) (reference_prints t k (c ∷ cs))) (sym (heard_outcome k s c h))
      (subst (λ (ys : List ℕ). Begins (outcome_text p ++ lines_before cap (length out) ys cs) (reference_prints t k (c ∷ cs))) (sym (heard_row k s c h))
      (subst (Begins (outcome_text p ++ lines_before cap (length out) (row k') cs)) (sym (prints_more t t k k' p c cs refl refl refl))
      (begins_more (lines_before cap (length out) (row k') cs) (reference_prints t k' cs) (outcome_text p) (reference_begins k' (heard_stands k s c h) cs))))))

-- What holds along commands from an empty store on, where `out` has enough numbers.
from_empty : (P : ℕ → List ℕ → Type 0) (t : Terms) (n : ℕ) → out_width ≤ n
    → ((out : List ℕ) → out_width ≤ length out → (rest : List ℕ) → P (length out) (clean_row t (image t empty) rest)) → (xs : List ℕ) → P n (empty_row t xs)
from_empty P t n room f xs =
    let out : List ℕ = replicate n 0 in
    let long : length out ≡ n = length-replicate n 0 in
    subst (λ (m : ℕ). P m (empty_row t xs)) long (subst (P (length out)) (sym (empty_clean t xs)) (f out (omega arith) (drop store_size xs)))

heard_from_empty : (cap : Capacity) (n : ℕ) → out_width ≤ n → (t : Terms) (xs : List ℕ) (cs : List Command)
    → store_prints_heard cap n (empty_row t xs) cs ≡ reference_prints t empty (store_heard cap n (empty_row t xs) cs)
heard_from_empty cap n room t xs cs =
    from_empty (λ m ys. store_prints_heard cap m ys cs ≡ reference_prints t empty (store_heard cap m ys cs)) t n room
    (λ out long rest. same_heard cap out long t rest empty (empty_standing t) cs) xs

begins_from_empty : (cap : Capacity) (n : ℕ) → out_width ≤ n → (t : Terms) (xs : List ℕ) (cs : List Command)
    → Begins (lines_before cap n (empty_row t xs) cs) (reference_prints t empty cs)
begins_from_empty cap n room t xs cs =
    from_empty (λ m ys. Begins (lines_before cap m ys cs) (reference_prints t empty cs)) t n room
    (λ out long rest. reference_begins cap out long t rest empty (empty_standing t) cs) xs

-- Where nothing is withheld, nothing is left out.
all_shown : (cap : Capacity) (n : ℕ) (xs : List ℕ) (cs : List Command) → AllByRecursion (λ o. withheld_outcome o ≡ false) (store_outcomes cap n xs cs)
    → store_prints_heard cap n xs cs ≡ store_prints cap n xs cs
all_shown cap n xs [] a = refl
all_shown cap n xs (c ∷ cs) a =
    let none = a.0 in let ih = all_shown cap n (row_then cap xs n c) cs a.1 in cc (none, ih)

all_heard : (cap : Capacity) (n : ℕ) (xs : List ℕ) (cs : List Command) → AllByRecursion (λ o. withheld_outcome o ≡ false) (store_outcomes cap n xs cs) → store_heard cap n xs cs ≡ cs
all_heard cap n xs [] a = refl
all_heard cap n xs (c ∷ cs) a =
    let none = a.0 in let ih = all_heard cap n (row_then cap xs n c) cs a.1 in cc (none, ih)

same_from_empty : (cap : Capacity) (n : ℕ) → out_width ≤ n → (t : Terms) (xs : List ℕ) (cs : List Command)
    → AllByRecursion (λ o. withheld_outcome o ≡ false) (store_outcomes cap n (empty_row t xs) cs) → store_prints cap n (empty_row t xs) cs ≡ reference_prints t empty cs
same_from_empty cap n room t xs cs a =
    sym (all_shown cap n (empty_row t xs) cs a) ∙ heard_from_empty cap n room t xs cs ∙ ap (reference_prints t empty) (all_heard cap n (empty_row t xs) cs a)

pub same_text_heard : SameTextHeard
same_text_heard cap t cs = heard_from_empty cap out_width (omega arith) t (replicate store_size 0) cs

pub same_text : SameText
same_text cap t cs a = same_from_empty cap out_width (omega arith) t (replicate store_size 0) cs a

pub same_beginning : SameBeginning
same_beginning cap t cs =
    let xs : List ℕ = empty_row t (replicate store_size 0) in
    (store_begins cap out_width xs cs, begins_from_empty cap out_width (omega arith) t (replicate store_size 0) cs)

-- So a report with the store's text is one as recomputed.
pub as_recomputed : (cap : Capacity) (file : List ℕ) (o : Result FileText FileError) → Reported (settle_text cap) file o → AsRecomputed cap file o
as_recomputed cap file (Err e) h = tt
as_recomputed cap file (Ok r) h = λ t is none.
    let same : h.0 ≡ t = cc (h.1, is) in
    h.2 ∙ ap (λ (u : Terms). settle_text cap u (commands (body file))) same ∙ same_text cap t (commands (body file)) none

pub streamed_as_recomputed : (cap : Capacity) (source out last : Option (List ℕ)) (r : Result (Option ℕ) StreamError)
    → OfSource (λ file. Streamed (settle_text cap) file out last) source r → IfSome source (λ file. OnOk r (StreamedAsRecomputed cap file out last))
streamed_as_recomputed cap None out last r h = tt
streamed_as_recomputed cap (Some file) out last (Err e) h = tt
streamed_as_recomputed cap (Some file) out last (Ok at) h = λ t is none.
    let same : h.0 ≡ t = cc (h.1, is) in
    subst (Appends out last) (ap (λ (u : Terms). settle_text cap u (commands (body file))) same ∙ same_text cap t (commands (body file)) none) h.2
