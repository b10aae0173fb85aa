-- What is seen of a row, and what a table of its cells holds.
use Rattle.std.proofs.Common.{◌≡◌, ℕ, List, ap}
use Rattle.rows.specs.declared.row.Row.{Ghosts}
use Rattle.rows.specs.declared.table.Rows.{Rows}
use Rattle.rows.specs.declared.table.Table.{Table}
use Rattle.rows.specs.Rows.{rows_in}
use Rattle.rows.specs.Tables.{rows_of, rows_seen}
use Rattle.store.specs.declared.header.Header.{Header}
use Rattle.store.specs.declared.view.View.{View}
use Rattle.store.specs.Contents.{header_in, store_in}
use Rattle.store.specs.Faults.{table_faults}
use Rattle.store.specs.Views.{Shows, faults_seen, store_seen}

pub seen_at : {R : Type 0} {g : Ghosts R} (r : Rows R g) (n : ℕ) (xs : List ℕ) → r.cells.now ≡ xs → r.len ≡ n → rows_seen r ≡ rows_in g.WIDTH g.made n xs
seen_at r n xs cells len = cc

pub rows_at : {R : Type 0} {g : Ghosts R} (t : Table R g) (n : ℕ) (xs : List ℕ) → t.cells.now ≡ xs → t.len ≡ n → rows_of t ≡ rows_in g.WIDTH g.made n xs
rows_at t n xs cells len = cc

module _ {v : View} {xs : List ℕ} (s : Shows v xs) where
  pub store_shown : store_seen v ≡ store_in xs
  store_shown = cc

  pub faults_shown : faults_seen v ≡ table_faults (header_in xs) xs
  faults_shown = rw (s.visits, s.readings, s.lines) (ap (λ (h : Header). table_faults h xs) s.header)
