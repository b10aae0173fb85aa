use Rattle.std.proofs.Common.{◌≡◌, ℕ, ◌+◌, ◌-◌, ◌*◌, ◌≤◌, List, ◌++◌, length, take, drop, replicate, sym, ap, ◌∙◌, arith}
use Rattle.std.specs.List.{between}
use Rattle.std.proofs.lemmas.List.Edits.{length-between}
use Rattle.std.proofs.lemmas.List.{append_assoc, drop-drop, drop_at, length-take-le, replicate-append-replicate}
use borrow.Rule.Slice.PartMut.{put_mid}
use Rattle.model.specs.Store.{empty_store}
use Rattle.rows.specs.Lines.{line_width}
use Rattle.rows.specs.Readings.{reading_width}
use Rattle.rows.specs.Visits.{visit_width}
use Rattle.store.specs.Contents.{header_of}
use Rattle.store.specs.Header.{header_cells}
use Rattle.store.specs.Layout.{lines_room, readings_room, store_size, visits_at, visits_room}
use Rattle.store.proofs.opening.clear.Goals as goal

zeros : (a b c n : ℕ) (xs : List ℕ) → a + (b + c) ≡ n → replicate n 0 ++ xs ≡ replicate a 0 ++ (replicate b 0 ++ (replicate c 0 ++ xs))
zeros a b c n xs e =
    ap (λ k. replicate k 0 ++ xs) (sym e) ∙ ap (λ l. l ++ xs) (sym (replicate-append-replicate a (b + c) 0)) ∙ append_assoc (replicate a 0) (replicate (b + c) 0) xs
    ∙ ap (λ l. replicate a 0 ++ l) (ap (λ l. l ++ xs) (sym (replicate-append-replicate b c 0)) ∙ append_assoc (replicate b 0) (replicate c 0) xs)

-- What stands behind place a once the cells from there up to e are filled with 0.
zeroed : (a e : ℕ) (xs ys : List ℕ) → a ≤ e → e ≤ length xs → ys ≡ replicate (length (between a e xs)) 0 → drop a (put_mid a (e - a) xs ys) ≡ replicate (e - a) 0 ++ drop e xs
zeroed a e xs ys o k q =
    let whole : a + (e - a) ≡ e = omega arith in
    let all : put_mid a (e - a) xs ys ≡ take a xs ++ (replicate (e - a) 0 ++ drop e xs) = rw (q, length-between xs a e k, drop-drop (e - a) a xs, whole) in
    ap (drop a) all ∙ drop_at (take a xs) (replicate (e - a) 0 ++ drop e xs) a (length-take-le a xs (omega arith))

pub returns : goal.returns
returns c =
    let xs = c.args.store.now in
    let head : List ℕ = header_cells (header_of c.args.terms empty_store) in
    let ys : List ℕ = put_mid visits_at (store_size - visits_at) xs c.fill.new.self in
    ap (λ l. l ++ drop visits_at ys) c.write.ensures
    ∙ ap (λ l. head ++ l)
    (zeroed visits_at store_size xs c.fill.new.self (omega arith) c.requires (c.fill.ensures.after (λ y e. e))
    ∙ zeros (visits_room * visit_width) (readings_room * reading_width) (lines_room * line_width) (store_size - visits_at) (drop store_size xs) (omega arith))
