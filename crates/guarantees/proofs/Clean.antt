-- Rows that hold a store and nothing else: what is read from them, and that commands leave such rows.
use Rattle.std.proofs.Common.{◌≡◌, ℕ, ◌+◌, ◌-◌, ◌*◌, ◌≤◌, List, [], ◌++◌, length, drop, replicate, sym, refl, ap, ◌∙◌, arith}
use Rattle.std.proofs.lemmas.List.{append-nil, drop_all, length-append, length-replicate}
use Rattle.visit.specs.declared.Terms.{Terms}
use Rattle.model.specs.Store.{Draft, Store, empty_store}
use Rattle.rows.specs.Lines.{line_cells, line_laws, line_width}
use Rattle.rows.specs.Readings.{reading_cells, reading_laws, reading_width}
use Rattle.rows.specs.Rows.{Laws, cells_of, holding, rows_in}
use Rattle.rows.specs.Visits.{visit_cells, visit_laws, visit_width}
use Rattle.rows.proofs.Copying.{length_cells}
use Rattle.rows.proofs.Holding.{holding_again}
use Rattle.rows.proofs.Products.{rows_left, rows_rise}
use Rattle.rows.proofs.Splits.{rows_of_cells}
use Rattle.store.specs.Contents.{empty_parts, empty_row, header_of, parts_after, row_after, store_in, store_of}
use Rattle.store.specs.Layout.{lines_room, readings_room, store_size, visits_room}
use Rattle.store.specs.Parts.{Parts, parts, whole}
use Rattle.guarantees.specs.Rows.{Fits, clean_parts, clean_row, table}
use Rattle.guarantees.proofs.Cutting.{Sized, length_whole, parts_by, parts_whole}
use Rattle.guarantees.proofs.ReadingBack.{HasRoom, same_store}

module _ {R : Type 0} {w : ℕ} {made : List ℕ → R} {cells : R → List ℕ} (laws : Laws w made cells) where
  length_table : (room : ℕ) (rs : List R) → length rs ≤ room → length (table w cells room rs) ≡ room * w
  length_table room rs h = grind (arith, rows_left w (length rs) room h, rows_rise w (length rs) room h, length-append (cells_of cells rs) (replicate ((room - length rs) * w) 0), length_cells laws rs, length-replicate)

  table_rows : (room : ℕ) (rs : List R) → rows_in w made (length rs) (table w cells room rs) ≡ rs
  table_rows room rs = rows_of_cells laws rs (replicate ((room - length rs) * w) 0)

  table_held : (room : ℕ) (rs : List R) → table w cells room rs ≡ holding w cells room rs []
  table_held room rs =
      ap (λ l. cells_of cells rs ++ l)
      (sym (append-nil (replicate ((room - length rs) * w) 0)) ∙ ap (λ l. replicate ((room - length rs) * w) 0 ++ l) (sym (drop_all (room * w) [] (omega arith))))

  table_after : (room most : ℕ) (rs qs : List R) → length rs ≤ most → length qs ≤ most → most ≤ room → length rs ≤ room
      → holding w cells most qs (table w cells room rs) ≡ table w cells room qs
  table_after room most rs qs few less fits small = grind (arith, table_held room rs, holding_again laws room most rs qs [] small few less, table_held room qs)

module _ (t : Terms) (s : Store) (rest : List ℕ) (fits : Fits s) where
  sized_clean : Sized (clean_parts t s rest)
  sized_clean = grind (arith, length_table visit_laws visits_room s.live fits.visits, length_table reading_laws readings_room s.seen fits.readings, length_table line_laws lines_room s.ledger fits.lines)

  pub clean_cut : parts (clean_row t s rest) ≡ clean_parts t s rest
  clean_cut = parts_whole (clean_parts t s rest) sized_clean

  pub clean_length : length (clean_row t s rest) ≡ store_size + length rest
  clean_length = length_whole (clean_parts t s rest) sized_clean

  pub clean_store : store_in (clean_row t s rest) ≡ s
  clean_store =
      ap (store_of (header_of t s)) clean_cut
      ∙ same_store s _ _ _ (table_rows visit_laws visits_room s.live) (table_rows reading_laws readings_room s.seen) (table_rows line_laws lines_room s.ledger)

  -- A command leaves such a row: what it wrote over and left is 0 again.
  pub clean_after : (d : Draft) (next : Store) → HasRoom (header_of t s) d next → row_after (clean_row t s rest) d next ≡ clean_row t next rest
  clean_after d next room =
      ap (λ (p : Parts). whole (parts_after (header_of t s) d next p)) clean_cut
      ∙ ap whole (parts_by (parts_after (header_of t s) d next (clean_parts t s rest)) (clean_parts t next rest) refl
      (table_after visit_laws visits_room _ s.live next.live (omega arith) room.visits room.most_visits fits.visits)
      (table_after reading_laws readings_room _ s.seen next.seen (omega arith) room.readings room.most_readings fits.readings)
      (table_after line_laws lines_room _ s.ledger next.ledger (omega arith) (omega arith) room.most_lines fits.lines)
      refl)

-- So is the row of an empty store.
empty_table : {R : Type 0} (w : ℕ) (cells : R → List ℕ) (room : ℕ) → replicate (room * w) 0 ≡ table w cells room []
empty_table w cells room = grind arith

pub empty_clean : (t : Terms) (xs : List ℕ) → empty_row t xs ≡ clean_row t empty_store (drop store_size xs)
empty_clean t xs =
    ap whole (parts_by (empty_parts t (drop store_size xs)) (clean_parts t empty_store (drop store_size xs)) refl (empty_table visit_width visit_cells visits_room) (empty_table reading_width reading_cells readings_room) (empty_table line_width line_cells lines_room) refl)

pub empty_fits : Fits empty_store
empty_fits = grind arith
