-- The runs of an iterator over rows.
use Rattle.std.proofs.Common.{◌≡◌, ◌^◌, ◌<◌, List, [], ◌∷◌, length, sym, ap, ◌∙◌, arith}
use Rattle.std.proofs.lemmas.Iterator.{YieldsList}
use Rattle.std.proofs.iter.runs.Sources.{as_is, from_front}
use Rattle.std.specs.Iterator.{AlwaysYields, YieldsFirst}
use Rattle.rows.specs.declared.iter.RowIter.{RowIter}
use Rattle.rows.specs.declared.row.Row.{Ghosts}
use Rattle.rows.specs.declared.table.Rows.{Rows}
use Rattle.rows.specs.Tables.{RowsInOrder, rows_left, rows_seen}
use Rattle.rows.proofs.Products.{rows_many}
use Rattle.rows.proofs.Splits.{length_rows}

pub rows_run : {R : Type 0} (g : Ghosts R) → RowsInOrder g
rows_run {R} g p s =
    as_is p (rows_left p.from) (from_front (YieldsFirst {A = R} (rows_left {g = g})) (λ x. x) rows_left (λ s t h. ap length h.0) (λ s x t h. h) p s)

-- Their number, where the length of the slice fits a word.
pub rows_count : {R : Type 0} {g : Ghosts R} (t : Rows R g) → 0 < g.WIDTH → length t.cells.now < 2 ^ 64 → length (rows_seen t) < 2 ^ 64
rows_count {g = g} t some h = rw (length_rows g.WIDTH g.made t.len t.cells.now) (omega (arith, rows_many g.WIDTH t.len some, t.fits))

-- An iterator gives the rows that it has left.
pub rows_given : {R : Type 0} {g : Ghosts R} (rs : List R) (s : RowIter R g) → rows_left s ≡ rs → AlwaysYields (YieldsFirst {A = R} (rows_left {g = g})) (λ r. r) s rs
rows_given [] s e = λ x j first. let same : [] ≡ x ∷ rows_left j = sym e ∙ first in let z : ⊥ = cc in z
rows_given (r ∷ rs) s e = (
  λ j none. let same : [] ≡ r ∷ rs = sym none.0 ∙ e in let z : ⊥ = cc in z,
  λ x j first. let both : x ∷ rows_left j ≡ r ∷ rs = sym first ∙ e in let head : x ≡ r = cc in let rest : rows_left j ≡ rs = cc in (head, rows_given rs j rest),
)

pub rows_list : {R : Type 0} {g : Ghosts R} {s : RowIter R g} (rs : List R) → rows_left s ≡ rs → YieldsList (YieldsFirst {A = R} (rows_left {g = g})) (λ r. r) s rs
rows_list {s = s} rs e = record { runs = rows_given rs s e }
