-- A visit set aside from those that it takes in, and then put in its place: a merging.
use Rattle.std.proofs.Common.{◌≡◌, ℕ, ◌+◌, ◌≤◌, max, List, ◌++◌, length, take, refl, ap, sym, arith}
use Rattle.std.specs.List.{insert}
use Rattle.std.proofs.lemmas.List.{length-append, take_at}
use Rattle.visit.specs.declared.Terms.{Terms}
use Rattle.visit.specs.declared.Visit.{Visit}
use Rattle.model.specs.Store.{merge_in}
use Rattle.rows.specs.declared.row.Row.{Ghosts}
use Rattle.rows.specs.declared.table.Table.{Table}
use Rattle.rows.specs.Tables.{Becomes, HasRoom, rows_of}
use Rattle.rows.proofs.Becoming.{becomes_as, becomes_len, becomes_long, becomes_then, len_inserted, len_truncated, length_of}
use Rattle.live.specs.declared.merging.Placed.{Placed}
use Rattle.live.specs.Walk.{left_over, placed_of, taken_in}
use Rattle.live.proofs.Parts.{length_merged, length_parts, merge_parts, place_within}

-- A visit put in where the table was cut.
module _ {g : Ghosts Visit} {t mid : Table Visit g} {k : ℕ} (cut : Becomes t mid t.len (take k (rows_of t))) (few : k ≤ t.len) where
  pub cut_len : mid.len ≡ k
  cut_len = len_truncated k few cut

  pub cut_long : length mid.cells.now ≡ length t.cells.now
  cut_long = becomes_long cut (omega (arith, cut_len, few)) t.fits

  pub cut_put : {u : Table Visit g} (at : ℕ) (v : Visit) → Becomes mid u (mid.len + 1) (insert (rows_of mid) at v) → at ≤ k → Becomes t u (max t.len (k + 1)) (insert (take k (rows_of t)) at v)
  cut_put at v put h =
      let less = cut_len in
      let more = len_inserted at v (omega (arith, less, h)) put in
      let put' = becomes_as put refl (ap (λ l. insert l at v) cut.rows) in
      becomes_then cut put' (omega (arith, less, few)) (omega arith) (omega (arith, more)) (omega (arith, less))

module _ {g : Ghosts Visit} {t mid : Table Visit g} (terms : Terms) (v : Visit) {placed : Placed} (is : placed ≡ placed_of terms v (rows_of t)) (aside : Becomes t mid t.len (left_over terms v (rows_of t) ++ taken_in terms v (rows_of t))) where
  abbrev left : List Visit
  left = left_over terms v (rows_of t)

  abbrev taken : List Visit
  taken = taken_in terms v (rows_of t)

  others_are : placed.others ≡ length left
  others_are = ap (λ (p : Placed). p.others) is

  pub same_len : mid.len ≡ t.len
  same_len = omega (arith, becomes_len aside, length-append left taken, length_parts terms v (rows_of t), length_of t)

  pub place_fits : placed.at ≤ placed.others
  place_fits = omega (arith, ap (λ (p : Placed). p.at) is, others_are, place_within terms v (rows_of t))

  pub others_few : placed.others ≤ mid.len
  others_few = omega (arith, others_are, length_parts terms v (rows_of t), length_of t, same_len)

  pub room_stays : HasRoom t 1 → HasRoom mid 1
  room_stays h =
      let same = same_len in
      let long = becomes_long aside (omega (arith, same)) t.fits in
      rw (same, long) h

  pub merged : (u : Table Visit g) → Becomes mid u (max mid.len (placed.others + 1)) (insert (take placed.others (rows_of mid)) placed.at placed.visit) → Becomes t u (max t.len u.len) (merge_in terms v (rows_of t))
  merged u put =
      let whole : insert (take placed.others (rows_of mid)) placed.at placed.visit ≡ merge_in terms v (rows_of t) =
      rw (is, aside.rows, take_at left taken (length left) refl) (sym (merge_parts terms v (rows_of t))) in
      let put' = becomes_as put refl whole in
      let many : u.len ≡ placed.others + 1 = omega (arith, becomes_len put', length_merged terms v (rows_of t), others_are) in
      becomes_then aside put' (omega (arith, same_len)) (omega arith) (omega (arith, many)) (omega (arith, many, same_len))
