-- What becomes of a table, in one change and in several.
use Rattle.std.proofs.Common.{◌≡◌, ℕ, ◌+◌, ◌-◌, ◌*◌, ◌<◌, ◌≤◌, max, Bool, not, List, [], ◌∷◌, ◌++◌, length, take, drop, filter, set, sym, refl, ap, ◌∙◌, zero-mul, suc-mul, add-one, arith}
use Rattle.std.specs.List.{between, insert, remove}
use Rattle.std.proofs.lemmas.List.{append-nil, drop-drop, length-append, length-drop, length-set, length-take-le, set_split, take-append-drop}
use Rattle.std.proofs.lemmas.List.Edits.{length-insert, length-remove}
use Rattle.std.proofs.lemmas.List.Filters.{length-filter_both}
use Rattle.rows.specs.declared.row.Row.{Ghosts}
use Rattle.rows.specs.declared.table.Table.{Table}
use Rattle.rows.specs.Rows.{holding}
use Rattle.rows.specs.Tables.{Becomes, filled, rows_of}
use Rattle.rows.proofs.Holding.{held_rows, holding_again, holding_itself, holding_replaced, length_holding}
use Rattle.rows.proofs.Products.{row_ends}
use Rattle.rows.proofs.Splits.{length_rows}

module _ {R : Type 0} {g : Ghosts R} where
  pub length_of : (t : Table R g) → length (rows_of t) ≡ t.len
  length_of t = length_rows g.WIDTH g.made t.len t.cells.now

  -- A table that nobody has changed.
  pub becomes_itself : (t : Table R g) → Becomes t t t.len (rows_of t)
  becomes_itself t = record { same = refl; rows = refl; held = holding_itself g.laws t.len t.cells.now t.fits }

  -- The cells and the number of rows say what the rows are.
  pub becomes_held : {t u : Table R g} {m : ℕ} {rs : List R} → u.cells.ghost_name ≡ t.cells.ghost_name → u.len ≡ length rs → u.cells.now ≡ filled t m rs → Becomes t u m rs
  becomes_held {t} {u} {m} {rs} same len held = record { same = same; rows = held_rows g.laws u.len m rs t.cells.now u.cells.now held len; held = held }

  module _ {t u : Table R g} {m : ℕ} {rs : List R} (b : Becomes t u m rs) where
    pub becomes_len : u.len ≡ length rs
    becomes_len = sym (length_of u) ∙ ap length b.rows

    pub becomes_long : u.len ≤ m → m * g.WIDTH ≤ length t.cells.now → length u.cells.now ≡ length t.cells.now
    becomes_long h k = ap length b.held ∙ length_holding g.laws m rs t.cells.now (omega (arith, becomes_len)) k

    -- The same in other words.
    pub becomes_as : {k : ℕ} {qs : List R} → m ≡ k → rs ≡ qs → Becomes t u k qs
    becomes_as {qs = qs} e q = record { same = b.same; rows = b.rows ∙ q; held = b.held ∙ ap (filled t m) q ∙ ap (λ j. filled t j qs) e }

    -- One change after another.
    pub becomes_then : {v : Table R g} {k n : ℕ} {qs : List R} → Becomes u v k qs → u.len ≤ m → u.len ≤ k → v.len ≤ k → max m k ≡ n → Becomes t v n qs
    becomes_then {v} {k} {n} {qs} c h o q top =
        let few : length rs ≤ m = omega (arith, becomes_len) in
        let less : length rs ≤ k = omega (arith, becomes_len) in
        let last : length qs ≤ k = omega (arith, ap length c.rows, length_of v) in
        record {
          same = c.same ∙ b.same;
          rows = c.rows;
          held = c.held ∙ ap (holding g.WIDTH g.cells k qs) b.held ∙ holding_again g.laws m k rs qs t.cells.now few less last ∙ ap (λ j. filled t j qs) top;
        }

  -- How many rows there are then.
  module _ {t u : Table R g} {m : ℕ} where
    pub len_put : (i : ℕ) (r : R) → Becomes t u m (set (rows_of t) i r) → u.len ≡ t.len
    len_put i r b = becomes_len b ∙ length-set (rows_of t) i r ∙ length_of t

    pub len_inserted : (i : ℕ) (r : R) → i ≤ t.len → Becomes t u m (insert (rows_of t) i r) → u.len ≡ t.len + 1
    len_inserted i r h b = becomes_len b ∙ length-insert (rows_of t) i r (rw (length_of t) h) ∙ ap (λ n. n + 1) (length_of t)

    pub len_removed : (i : ℕ) → i < t.len → Becomes t u m (remove (rows_of t) i) → u.len + 1 ≡ t.len
    len_removed i h b = ap (λ n. n + 1) (becomes_len b) ∙ length-remove (rows_of t) i (rw (length_of t) h) ∙ length_of t

    pub len_truncated : (k : ℕ) → k ≤ t.len → Becomes t u m (take k (rows_of t)) → u.len ≡ k
    len_truncated k h b = becomes_len b ∙ length-take-le k (rows_of t) (rw (length_of t) h)

    pub len_replaced : (i gone : ℕ) (rs : List R) → i + gone ≤ t.len → Becomes t u m (take i (rows_of t) ++ (rs ++ drop (i + gone) (rows_of t))) → u.len ≡ t.len - gone + length rs
    len_replaced i gone rs h b =
        let front = length-take-le i (rows_of t) (rw (length_of t) (omega arith)) in
        becomes_len b ∙ simp (length-append, length-drop) (omega (arith, front, length_of t))

    pub len_filtered : (p : R → Bool) → Becomes t u m (filter p (rows_of t)) → u.len ≤ t.len
    len_filtered p b = omega (arith, becomes_len b, length-filter_both p (λ x. not (p x)) (λ _. refl) (rows_of t), length_of t)

  -- One row written over.
  module _ (t : Table R g) (i : ℕ) (r : R) (h : i < t.len) where
    put_cells : filled t t.len (set (rows_of t) i r) ≡ take (i * g.WIDTH) t.cells.now ++ (g.cells r ++ drop (i * g.WIDTH + g.WIDTH) t.cells.now)
    put_cells =
        let w = g.WIDTH in
        let xs = t.cells.now in
        let n = t.len in
        let written : set (rows_of t) i r ≡ take i (rows_of t) ++ ((r ∷ []) ++ drop (i + 1) (rows_of t)) =
        set_split (rows_of t) i r (rw (length_of t) h) ∙ rw (add-one i) in
        let next : (i + 1) * w ≡ i * w + w = rw (add-one i) (suc-mul i w) in
        let none : (1 - 1) * w ≡ 0 = zero-mul w in
        let whole : n + (1 - 1) ≡ n = omega arith in
        let ends = row_ends w i n h in
        let end = i * w + w in
        let upto : end + (n * w - end) ≡ n * w = omega arith in
        let behind : between end (n * w) xs ++ drop (n * w) xs ≡ drop end xs =
        ap (λ l. between end (n * w) xs ++ l) (ap (λ k. drop k xs) (sym upto) ∙ sym (drop-drop (n * w - end) end xs)) ∙ take-append-drop (n * w - end) (drop end xs) in
        let cut : filled t (n + (1 - 1)) (take i (rows_of t) ++ ((r ∷ []) ++ drop (i + 1) (rows_of t))) ≡ take (i * w) xs ++ (g.cells r ++ drop end xs) =
        sym (holding_replaced g.laws n i 1 (r ∷ []) xs (omega arith) t.fits) ∙ rw (next, none, whole, append-nil (g.cells r), behind) in
        ap (filled t n) written ∙ ap (λ k. filled t k (take i (rows_of t) ++ ((r ∷ []) ++ drop (i + 1) (rows_of t)))) (sym whole) ∙ cut

  module _ {t u : Table R g} (i : ℕ) (r : R) (h : i < t.len) where
    pub becomes_put : u.cells.ghost_name ≡ t.cells.ghost_name → u.len ≡ t.len
        → u.cells.now ≡ take (i * g.WIDTH) t.cells.now ++ (g.cells r ++ drop (i * g.WIDTH + g.WIDTH) t.cells.now) → Becomes t u t.len (set (rows_of t) i r)
    becomes_put same len stored = becomes_held same (len ∙ sym (length-set (rows_of t) i r ∙ length_of t)) (stored ∙ sym (put_cells t i r h))

    pub put_stored : Becomes t u t.len (set (rows_of t) i r) → u.cells.now ≡ take (i * g.WIDTH) t.cells.now ++ (g.cells r ++ drop (i * g.WIDTH + g.WIDTH) t.cells.now)
    put_stored b = b.held ∙ put_cells t i r h
