-- How many visits a command changes, and how many numbers they are.
use Rattle.std.proofs.Common.{◌≡◌, ℕ, ◌+◌, ◌*◌, ◌≤◌, not, ltb, List, [], ◌∷◌, ◌++◌, length, sym, ◌∙◌, subst, arith}
use Rattle.std.proofs.lemmas.List.{length-append}
use Rattle.std.proofs.lemmas.Bool.{ltb-false}
use Rattle.visit.specs.declared.Reading.{Reading}
use Rattle.visit.specs.declared.Terms.{Terms}
use Rattle.visit.specs.declared.Visit.{Visit}
use Rattle.visit.specs.Readings.{too_late}
use Rattle.visit.specs.Visits.{closed, same_visit, single}
use Rattle.command.specs.declared.Command.TheVariants.{Reading as AReading, Watermark}
use Rattle.command.specs.Outcomes.{changed}
use Rattle.model.specs.Sessions.{closed_visits, contains, difference, some}
use Rattle.model.specs.Store.{Store, merge_in, store_outcome}
use Rattle.model.proofs.Common.{kept_shorter, split}
use Rattle.rows.specs.Rows.{cells_of}
use Rattle.rows.specs.Visits.{visit_cells, visit_laws, visit_width}
use Rattle.rows.proofs.Copying.{length_cells}
use Rattle.live.specs.Walk.{became, left_over, taken_in}
use Rattle.changes.specs.Changed.{closed_besides, merging, rise}
use Rattle.rows.specs.Out.{out_head}
use Rattle.changes.specs.Out.{change_row}
use Rattle.changes.specs.Room.{OutSuffices}
use Rattle.changes.proofs.Differences.{only_newly_closed}
use Rattle.changes.proofs.Merging.{added_by}

pub length_change_row : (gone new : List Visit) → length (change_row gone new) ≡ out_head + (length gone + length new) * visit_width
length_change_row gone new =
    omega (arith, length-append (cells_of visit_cells gone) (cells_of visit_cells new), length_cells visit_laws gone, length_cells visit_laws new)

-- A merging retracts no more than there are and adds one at most; a watermark that rises adds no more than there are.
pub difference_fewer : (t : Terms) (m : ℕ) (vs ws : List Visit) → length (difference t (closed_visits t m vs) ws) ≤ length vs
difference_fewer t m vs ws = omega (arith, kept_shorter (λ v. not (some (same_visit t v) ws)) (closed_visits t m vs), kept_shorter (closed t m) vs)

pub merging_fewer : (t : Terms) (m : ℕ) (v : Visit) (vs gone new : List Visit) → merging t m v vs ≡ changed gone new → (length gone ≤ length vs) × (length new ≤ 1)
merging_fewer t m v vs gone new h =
    let g : difference t (closed_visits t m vs) (closed_visits t m (merge_in t v vs)) ≡ gone = cc h in
    let n : difference t (closed_visits t m (merge_in t v vs)) (closed_visits t m vs) ≡ new = cc h in (
      subst (λ (l : List Visit). length l ≤ length vs) g (difference_fewer t m vs (closed_visits t m (merge_in t v vs))),
      subst (λ (l : List Visit). length l ≤ 1) (sym (added_by t m v vs) ∙ n) (kept_shorter (closed_besides t m (left_over t v vs ++ taken_in t v vs)) (became t v vs ∷ [])),
    )

pub rise_fewer : (t : Terms) (from to : ℕ) (vs gone new : List Visit) → from ≤ to → rise t from to vs ≡ changed gone new → (length gone ≤ 0) × (length new ≤ length vs)
rise_fewer t from to vs gone new o h =
    let e : changed gone new ≡ changed [] _ = sym h ∙ only_newly_closed t from to vs o in
    let g : gone ≡ [] = cc e in
    let n : difference t (closed_visits t to vs) (closed_visits t from vs) ≡ new = cc h in
    (rw g (omega arith), subst (λ (l : List Visit). length l ≤ length vs) n (difference_fewer t to vs (closed_visits t from vs)))

-- So `out` has room for it.
reading_taken : (t : Terms) (s : Store) (e : Reading) (gone new : List Visit) → store_outcome t s (AReading e) ≡ changed gone new → merging t s.watermark (single e) s.live ≡ changed gone new
reading_taken t s e gone new h =
    split (too_late t s.watermark e)
    (λ o. cc)
    (λ o. split (contains t e s.seen) (λ q. cc) (λ q. simp (o, q) at h))

watermark_taken : (t : Terms) (s : Store) (m : ℕ) (gone new : List Visit) → store_outcome t s (Watermark m) ≡ changed gone new → (s.watermark ≤ m) × (rise t s.watermark m s.live ≡ changed gone new)
watermark_taken t s m gone new h =
    split (ltb m s.watermark)
    (λ o. let z : ◌≡◌ {A = ℕ} 0 1 = cc in absurd (omega arith))
    (λ o. (ltb-false m s.watermark o, simp o at h))

pub out_suffices : OutSuffices
out_suffices t s (AReading e) gone new h =
    let few = merging_fewer t s.watermark (single e) s.live gone new (reading_taken t s e gone new h) in
    record { retracted = few.0; added = few.1; out = λ n. omega (arith, length_change_row gone new) }
out_suffices t s (Watermark m) gone new h =
    let w = watermark_taken t s m gone new h in
    let few = rise_fewer t s.watermark m s.live gone new w.0 w.1 in
    record { retracted = few.0; added = few.1; out = λ n. omega (arith, length_change_row gone new) }
