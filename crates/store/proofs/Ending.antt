-- From the parts of a row as they were to the parts at the end.
use Rattle.std.proofs.Common.{◌≡◌, ℕ, ◌+◌, ◌*◌, ◌≤◌, max, List, ◌++◌, length, drop, sym, refl, ap, ◌∙◌, arith}
use Rattle.std.proofs.lemmas.List.{append_assoc, drop_at, drop-drop, length-append}
use Rattle.visit.specs.declared.Clock.{Clock}
use Rattle.visit.specs.declared.Reading.{Reading}
use Rattle.visit.specs.declared.Visit.{Visit}
use Rattle.command.specs.declared.Command.{Command}
use Rattle.command.specs.declared.Command.TheVariants.{Reading as AReading, Watermark}
use Rattle.model.specs.Store.{Draft, Store, finish}
use Rattle.rows.specs.declared.row.Row.{Ghosts}
use Rattle.rows.specs.declared.table.Table.{Table}
use Rattle.rows.specs.Lines.{line_cells, line_width}
use Rattle.rows.specs.Out.{gone_in, new_in, out_end}
use Rattle.rows.specs.Readings.{reading_cells, reading_width}
use Rattle.rows.specs.Rows.{cells_of, holding, rows_in}
use Rattle.rows.specs.Tables.{Becomes, rows_of}
use Rattle.rows.specs.Visits.{visit_cells, visit_laws, visit_made, visit_width}
use Rattle.rows.proofs.Becoming.{becomes_as, becomes_len, becomes_then, length_of}
use Rattle.rows.proofs.Copying.{length_cells}
use Rattle.rows.proofs.Splits.{rows_of_cells}
use Rattle.changes.specs.Out.{change_row, overlay}
use Rattle.changes.proofs.Counts.{length_change_row}
use Rattle.store.specs.declared.checks.Ready.{Ready}
use Rattle.store.specs.Contents.{parts_after, store_of}
use Rattle.store.specs.Header.{header_cells}
use Rattle.store.specs.Parts.{Parts}
use Rattle.store.specs.Steps.{clock_by, draft_in, draft_of, standing}

-- What was written to `out` is read from it again.
pub gone_written : (gone new : List Visit) (out : List ℕ) → gone_in (overlay (change_row gone new) out) ≡ gone
gone_written gone new out =
    ap (rows_in visit_width visit_made (length gone)) (append_assoc (cells_of visit_cells gone) (cells_of visit_cells new) _) ∙ rows_of_cells visit_laws gone _

pub new_written : (gone new : List Visit) (out : List ℕ) → new_in (overlay (change_row gone new) out) ≡ new
new_written gone new out =
    let rest = drop (length (change_row gone new)) out in
    let row = overlay (change_row gone new) out in
    ap (rows_in visit_width visit_made (length new))
    (sym (drop-drop (length gone * visit_width) 2 row)
    ∙ ap (drop (length gone * visit_width)) (append_assoc (cells_of visit_cells gone) (cells_of visit_cells new) rest)
    ∙ drop_at (cells_of visit_cells gone) (cells_of visit_cells new ++ rest) (length gone * visit_width) (length_cells visit_laws gone))
    ∙ rows_of_cells visit_laws new rest

-- The counts and visits in `out` once the changes stand in it.
module _ (gone new : List Visit) (out row : List ℕ) (written : row ≡ overlay (change_row gone new) out) where
  pub row_within : out_end row ≤ length row
  row_within =
      let row_long : length row ≡ length (change_row gone new) + length (drop (length (change_row gone new)) out) = ap length written ∙ length-append (change_row gone new) (drop (length (change_row gone new)) out) in
      omega (arith, row_long, length_change_row gone new, ap out_end written)

  pub gone_read : gone_in row ≡ gone
  gone_read = ap gone_in written ∙ gone_written gone new out

  pub new_read : new_in row ≡ new
  new_read = ap new_in written ∙ new_written gone new out

-- Tables made of cells.
pub stands : {v : Ghosts Visit} {r : Ghosts Reading} (k : Clock) (vs : Table Visit v) (es : Table Reading r) (n m : ℕ) (xs ys : List ℕ)
    → vs.cells.now ≡ xs → vs.len ≡ n → es.cells.now ≡ ys → es.len ≡ m
    → standing k vs es ≡ record { live = rows_in v.WIDTH v.made n xs; seen = rows_in r.WIDTH r.made m ys; watermark = k.watermark }
stands k vs es n m xs ys a b e f = cc

pub clock_after : (k : Clock) (b : Draft) (c : Command) → k.watermark ≡ b.watermark → clock_by k c ≡ record { terms = k.terms; watermark = (draft_of k.terms b c).watermark }
clock_after k b (AReading e) same = ap (λ m. record { terms = k.terms; watermark = m }) same
clock_after k b (Watermark m) same = refl

module _ {R : Type 0} {g : Ghosts R} {t v : Table R g} where
  -- A filter after other rows were put in.
  pub filtered : {u : Table R g} (f : List R → List R) (rs : List R) → ((xs : List R) → length (f xs) ≤ length xs)
      → Becomes t u (max t.len u.len) rs → Becomes u v u.len (f (rows_of u)) → Becomes t v (max t.len (length rs)) (f rs)
  filtered {u} f rs fewer b c =
      let few : v.len ≤ u.len = omega (arith, becomes_len c, fewer (rows_of u), length_of u) in
      becomes_as (becomes_then b {n = max t.len (length rs)} c (omega arith) (omega arith) few (omega (arith, becomes_len b))) refl (ap f b.rows)

  pub held_in : (n k : ℕ) (xs : List ℕ) (rs : List R) → t.cells.now ≡ xs → t.len ≡ n → Becomes t v (max t.len k) rs → v.cells.now ≡ holding g.WIDTH g.cells (max n k) rs xs
  held_in n k xs rs cells len b = cc

-- The parts that a command leaves, part by part.
module _ (q : Ready) (p : Parts) where
  abbrev end : Store
  end = finish q.header.clock.terms (store_of q.header p) (draft_in q p)

  pub parts_are : {h v r l : List ℕ} (k : Clock) (n m j : ℕ) → k ≡ record { terms = q.header.clock.terms; watermark = (draft_in q p).watermark }
      → n ≡ length end.live → m ≡ length end.seen → j ≡ length end.ledger
      → h ≡ header_cells (record { clock = k; visits = n; readings = m; lines = j })
      → v ≡ holding visit_width visit_cells (max q.header.visits (length (draft_in q p).live)) end.live p.visits
      → r ≡ holding reading_width reading_cells (max q.header.readings (length (draft_in q p).seen)) end.seen p.readings
      → l ≡ holding line_width line_cells (max q.header.lines (length end.ledger)) end.ledger p.lines
      → record { header = h; visits = v; readings = r; lines = l; rest = p.rest } ≡ parts_after q.header (draft_in q p) end p
  parts_are k n m j clock visits readings lines head held_visits held_readings held_lines =
      rw (head, held_visits, held_readings, held_lines, clock, visits, readings, lines)
