-- What stands in a table.
use Rattle.std.specs.Prelude.{◌≡◌, ℕ, ◌+◌, ◌*◌, ◌≤◌, List, length}
use Rattle.std.specs.Iterator.{YieldsFirst}
use Rattle.std.specs.Iterator.Runs.{YieldsInOrder}
use Rattle.rows.specs.declared.iter.RowIter.{RowIter}
use Rattle.rows.specs.declared.row.Row.{Ghosts}
use Rattle.rows.specs.declared.table.Rows.{Rows}
use Rattle.rows.specs.declared.table.Table.{Table}
use Rattle.rows.specs.Rows.{holding, rows_in}

-- The rows of a table that is only read.
abbrev pub rows_seen : {R : Type 0} {g : Ghosts R} → Rows R g → List R
rows_seen {g = g} t = rows_in g.WIDTH g.made t.len t.cells.now

-- Those that an iterator has still to give.
abbrev pub rows_left : {R : Type 0} {g : Ghosts R} → RowIter R g → List R
rows_left s = rows_seen s.rest

-- An iterator gives them in their order.
abbrev pub RowsInOrder : {R : Type 0} → Ghosts R → Type 0
RowsInOrder {R} g = YieldsInOrder (YieldsFirst {A = R} (rows_left {g = g})) rows_left

-- The rows of a table.
abbrev pub rows_of : {R : Type 0} {g : Ghosts R} → Table R g → List R
rows_of {g = g} t = rows_in g.WIDTH g.made t.len t.cells.now

-- The cells of a table once it holds the rows rs: behind them 0 up to row `most`, and from there on what stands there now.
abbrev pub filled : {R : Type 0} {g : Ghosts R} → Table R g → ℕ → List R → List ℕ
filled {g = g} t most rs = holding g.WIDTH g.cells most rs t.cells.now

-- A table as it becomes: the same memory, these rows, behind them 0 up to row `most`, and from there on what stood there before.
pub record Becomes {R : Type 0} {g : Ghosts R} (old new : Table R g) (most : ℕ) (rs : List R) : Type 0 where
  pub same : new.cells.ghost_name ≡ old.cells.ghost_name
  pub rows : rows_of new ≡ rs
  pub held : new.cells.now ≡ filled old most rs

-- There is room for so many rows more.
abbrev pub HasRoom : {R : Type 0} {g : Ghosts R} → Table R g → ℕ → Type 0
HasRoom {g = g} t more = (t.len + more) * g.WIDTH ≤ length t.cells.now
