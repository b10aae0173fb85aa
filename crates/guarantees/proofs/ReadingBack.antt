-- A store written into a row is read back from it.
use Rattle.std.proofs.Common.{◌≡◌, ℕ, ◌*◌, ◌≤◌, max, List, length, refl, ap, ◌∙◌, arith}
use Rattle.std.proofs.lemmas.List.{length-drop}
use Rattle.visit.specs.declared.Line.{Line}
use Rattle.visit.specs.declared.Reading.{Reading}
use Rattle.visit.specs.declared.Visit.{Visit}
use Rattle.model.specs.Store.{Draft, Store}
use Rattle.rows.specs.Lines.{line_laws}
use Rattle.rows.specs.Readings.{reading_laws}
use Rattle.rows.specs.Rows.{Laws, holding}
use Rattle.rows.specs.Visits.{visit_laws}
use Rattle.rows.proofs.Holding.{holding_rows, length_holding}
use Rattle.rows.proofs.Products.{rows_rise}
use Rattle.store.specs.declared.header.Header.{Header}
use Rattle.store.specs.Contents.{header_in, header_of, parts_after, row_after, store_in, store_of, terms_in}
use Rattle.store.specs.Layout.{lines_room, readings_room, store_size, visits_room}
use Rattle.store.specs.Parts.{parts}
use Rattle.guarantees.proofs.Cutting.{Sized, length_whole, parts_whole, sized_parts}

-- There is room for all rows that the tables have on the way to a store, and the store has no more.
pub record HasRoom (h : Header) (d : Draft) (s : Store) : Type 0 where
  pub visits : length s.live ≤ max h.visits (length d.live)
  pub most_visits : max h.visits (length d.live) ≤ visits_room
  pub readings : length s.seen ≤ max h.readings (length d.seen)
  pub most_readings : max h.readings (length d.seen) ≤ readings_room
  pub most_lines : max h.lines (length s.ledger) ≤ lines_room

-- A table that is written keeps its length.
table_long : {R : Type 0} {w : ℕ} {made : List ℕ → R} {cells : R → List ℕ} (laws : Laws w made cells) (room most : ℕ) (rs : List R) (xs : List ℕ)
    → length rs ≤ most → most ≤ room → length xs ≡ room * w → length (holding w cells most rs xs) ≡ room * w
table_long {w = w} laws room most rs xs few fits long =
    let rise = rows_rise w most room fits in
    length_holding laws most rs xs few (omega arith) ∙ long

-- Stores that are equal part by part.
pub same_store : (s : Store) (live : List Visit) (seen : List Reading) (ledger : List Line) → live ≡ s.live → seen ≡ s.seen → ledger ≡ s.ledger
    → ◌≡◌ {A = Store} (record { live = live; seen = seen; watermark = s.watermark; ledger = ledger }) s
same_store s live seen ledger p q r = grind arith

module _ (xs : List ℕ) (d : Draft) (s : Store) (long : store_size ≤ length xs) (room : HasRoom (header_in xs) d s) where
  sized_after : Sized (parts_after (header_in xs) d s (parts xs))
  sized_after =
      let z = sized_parts xs long in
      record {
        header = refl;
        visits = table_long visit_laws visits_room _ s.live (parts xs).visits room.visits room.most_visits z.visits;
        readings = table_long reading_laws readings_room _ s.seen (parts xs).readings room.readings room.most_readings z.readings;
        lines = table_long line_laws lines_room _ s.ledger (parts xs).lines (omega arith) room.most_lines z.lines;
      }

  pub parts_back : parts (row_after xs d s) ≡ parts_after (header_in xs) d s (parts xs)
  parts_back = parts_whole (parts_after (header_in xs) d s (parts xs)) sized_after

  pub header_back : header_in (row_after xs d s) ≡ header_of (terms_in xs) s
  header_back = refl

  pub store_back : store_in (row_after xs d s) ≡ s
  store_back = ap (store_of (header_of (terms_in xs) s)) parts_back
      ∙ same_store s _ _ _ (holding_rows visit_laws _ s.live (parts xs).visits) (holding_rows reading_laws _ s.seen (parts xs).readings) (holding_rows line_laws _ s.ledger (parts xs).lines)

  pub length_back : length (row_after xs d s) ≡ length xs
  length_back = length_whole (parts_after (header_in xs) d s (parts xs)) sized_after ∙ omega (arith, length-drop store_size xs)
