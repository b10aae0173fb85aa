-- The row on the way: first the visits are written, behind where the counts will stand, then the counts.
use Rattle.std.proofs.Common.{◌≡◌, ℕ, ◌+◌, ◌-◌, ◌*◌, ◌≤◌, Bool, true, false, cond, List, [], ◌∷◌, ◌++◌, length, take, drop, sym, refl, ap, ◌∙◌, arith}
use Rattle.std.specs.Prelude.{Option, option_to_list}
use Rattle.std.specs.Bool.{then_some}
use borrow.Rule.Slice.PartMut.{put_mid}
use Rattle.std.proofs.lemmas.List.{append-nil, drop_all, drop-append-le, drop_at, drop-drop, drop-take, length-append, length-drop, length-take-le, take_rest}
use Rattle.std.proofs.lemmas.Grind.{flat_map-append}
use Rattle.visit.specs.declared.Visit.{Visit}
use Rattle.rows.specs.Rows.{cells_of}
use Rattle.rows.specs.Visits.{visit_cells, visit_laws, visit_width}
use Rattle.rows.proofs.Copying.{length_cells, write_next}
use Rattle.rows.specs.Out.{out_head}
use Rattle.changes.specs.Out.{PutInFront, change_row, overlay, with_added}
use Rattle.changes.proofs.Counts.{length_change_row}

-- All of a row behind place a, lent and written.
drop_lent : (a : ℕ) (xs zs : List ℕ) → a ≤ length xs → drop a (put_mid a (length xs - a) xs zs) ≡ zs
drop_lent a xs zs h =
    let none : length (drop a xs) ≤ length xs - a = simp length-drop (omega arith) in
    drop_at (take a xs) _ a (length-take-le a xs h) ∙ ap (λ l. zs ++ l) (drop_all (length xs - a) (drop a xs) none) ∙ append-nil zs

-- Behind the counts stand these visits, and behind them what stood there before.
abbrev pub Standing : List Visit → List ℕ → List ℕ → Type 0
Standing rs xs ys = drop out_head ys ≡ cells_of visit_cells rs ++ drop (length rs * visit_width) (drop out_head xs)

pub standing_lent : (rs : List Visit) (xs zs : List ℕ) (r : ℕ) → out_head ≤ length xs → PutInFront rs r (take (length xs - out_head) (drop out_head xs)) zs
    → Standing rs xs (put_mid out_head (length xs - out_head) xs zs)
standing_lent rs xs zs r h put =
    let lent = drop_lent out_head xs zs h in
    let all = take_rest xs out_head in
    cc (lent, all)

standing_more : (rs ss : List Visit) (xs ys zs : List ℕ) (k l : ℕ) → Standing rs xs ys → k ≡ length rs → l ≡ length ss
    → drop out_head zs ≡ take (k * visit_width) (drop out_head ys) ++ (cells_of visit_cells ss ++ drop ((k + l) * visit_width) (drop out_head ys))
    → Standing (rs ++ ss) xs zs
standing_more rs ss xs ys zs k l so p q stored =
    let start = length rs * visit_width in
    let end : (k + l) * visit_width ≡ start + length ss * visit_width = omega arith in
    let many : start + length ss * visit_width ≡ length (rs ++ ss) * visit_width = omega (arith, length-append rs ss) in
    let joined = write_next start (length ss * visit_width) (cells_of visit_cells rs) (drop out_head xs) (drop out_head ys) (cells_of visit_cells ss) (length_cells visit_laws rs) so in
    let cells = flat_map-append visit_cells rs ss in
    cc (stored, p, end, joined, many, cells)

-- With the counts the row is written.
pub counted : (gone new : List Visit) (xs ys zs : List ℕ) (a b : ℕ) → Standing (gone ++ new) xs ys → a ≡ length gone → b ≡ length new → zs ≡ a ∷ b ∷ drop out_head ys
    → zs ≡ overlay (change_row gone new) xs
counted gone new xs ys zs a b so p q stored =
    let n = length (gone ++ new) * visit_width in
    let end : out_head + n ≡ length (change_row gone new) = omega (arith, length-append gone new, length_change_row gone new) in
    let behind = drop-drop n out_head xs in
    let cells = flat_map-append visit_cells gone new in
    cc (stored, so, cells, behind, end, p, q)

-- The visit z if a test says so, as an option and as a list.
listed : (b : Bool) (z : Visit) → option_to_list (then_some b z) ≡ cond b (z ∷ []) []
listed true z = refl
listed false z = refl

-- The two steps of a reading: those retracted are written to the lent part, and behind them z if it is added, with the counts.
pub reading_written : (gone : List Visit) (z : Visit) (wanted : Bool) (o : Option Visit) (xs zs us : List ℕ) (k : ℕ) → out_head ≤ length xs
    → PutInFront gone k (take (length xs - out_head) (drop out_head xs)) zs → o ≡ then_some wanted z
    → us ≡ with_added k (option_to_list o) (put_mid out_head (length xs - out_head) xs zs) → us ≡ overlay (change_row gone (cond wanted (z ∷ []) [])) xs
reading_written gone z wanted o xs zs us k h put is written =
    let new = option_to_list o in
    let ys = put_mid out_head (length xs - out_head) xs zs in
    let behind = ap (drop out_head) written in
    counted gone new xs us us k (length new) (standing_more gone new xs ys us k (length new) (standing_lent gone xs zs k h put) put.many refl behind) put.many refl
    (written ∙ ap (λ l. k ∷ length new ∷ l) (sym behind))
    ∙ ap (λ l. overlay (change_row gone l) xs) (ap option_to_list is ∙ listed wanted z)

-- Those added are written to the part behind those retracted, and then the counts.
pub added_written : (k r : ℕ) (new : List Visit) (xs zs us : List ℕ) → out_head + k * visit_width ≤ length xs → r ≡ length new
    → zs ≡ cells_of visit_cells new ++ drop (r * visit_width) (take (length xs - (out_head + k * visit_width)) (drop (out_head + k * visit_width) xs))
    → us ≡ k ∷ r ∷ drop out_head (put_mid (out_head + k * visit_width) (length xs - (out_head + k * visit_width)) xs zs) → us ≡ with_added k new xs
added_written k r new xs zs us h many stored written =
    let a = out_head + k * visit_width in
    let n = (k + length new) * visit_width in
    let room = length xs - a in
    let none : length (drop a xs) ≤ room = simp length-drop (omega arith) in
    let front : out_head ≤ length (take a xs) = rw (length-take-le a xs h) (omega arith) in
    let end : a + r * visit_width ≡ out_head + n = omega arith in
    let all = take_rest xs a in
    let past = drop-drop (r * visit_width) a xs in
    let behind = drop-drop n out_head xs in
    let counts = drop-append-le out_head (take a xs) (zs ++ drop room (drop a xs)) front in
    let gone = drop-take out_head (k * visit_width) xs in
    let over = drop_all room (drop a xs) none in
    let nothing = append-nil zs in
    cc (written, stored, all, past, end, behind, counts, gone, over, nothing, many)
