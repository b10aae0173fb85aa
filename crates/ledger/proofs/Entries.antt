-- A line put to a ledger or taken from it, as the code does it at the place that it found.
use Rattle.std.proofs.Common.{◌≡◌, ℕ, suc, ◌+◌, ◌<◌, ◌≤◌, true, false, List, [], ◌∷◌, length, get_or, take, drop, set, Some, None, sym, refl, ap, ◌∙◌, arith, drop-cons}
use Rattle.std.specs.List.{insert, position_or_len, prefix_len, remove, slice_get}
use Rattle.std.proofs.lemmas.List.{append-nil, drop_all, set_split, take_all}
use Rattle.std.proofs.lemmas.Bool.{eq-eqb, ne_eqb}
use Rattle.std.proofs.lemmas.Bool.Decides.{nat_tests}
use Rattle.std.proofs.lemmas.Option.{slice_get_cases}
use Rattle.visit.specs.declared.Line.{Line}
use Rattle.visit.specs.declared.Terms.{Terms}
use Rattle.visit.specs.Lines.{line_before, line_minus, line_plus, same_key}
use Rattle.model.specs.Ledger.{add_here, add_line, take_line}
use Rattle.model.proofs.Common.{split}
use Rattle.model.proofs.Places.{at_place_is}
use Rattle.rows.specs.declared.row.Row.{Ghosts}
use Rattle.rows.specs.declared.table.Rows.{Rows}
use Rattle.rows.specs.Tables.{rows_seen}
use Rattle.rows.proofs.Splits.{length_rows}
use Rattle.ledger.specs.Keys.{first_of_key}
use Rattle.ledger.specs.Taken.{taken_at}

-- How many lines are before l, and the first of its key.
abbrev pub add_place : Terms → Line → List Line → ℕ
add_place t l xs = prefix_len (λ x. line_before t x l) xs

abbrev take_place : Terms → Line → List Line → ℕ
take_place t l xs = position_or_len (λ x. same_key t x l) xs

-- A line taken from the first of its key is taken from the one at that place.
take_placed : (t : Terms) (l : Line) (xs : List Line) → take_line t l xs ≡ taken_at l (take_place t l xs) xs
unfolding taken_at
take_placed t l [] = refl
take_placed t l (x ∷ xs) =
    let k = take_place t l xs in
    let ih = take_placed t l xs in
    let next : 1 + k ≡ suc k = omega arith in
    split (same_key t x l) (λ o. simp o) (λ o. simp (o, next, ih))

-- The place of the first line of the key, as code has it.
key_missed : (t : Terms) (l : Line) (xs : List Line) → first_of_key t l xs ≡ None → length xs ≤ take_place t l xs
unfolding first_of_key
key_missed t l xs e = grind (arith, nat_tests)

key_found : (t : Terms) (l : Line) (xs : List Line) (i : ℕ) → first_of_key t l xs ≡ Some i → i ≡ take_place t l xs
unfolding first_of_key
key_found t l xs i e = grind (arith, nat_tests)

key_within : (t : Terms) (l : Line) (xs : List Line) (i : ℕ) → first_of_key t l xs ≡ Some i → i < length xs
unfolding first_of_key
key_within t l xs i e = grind (arith, nat_tests)

-- The same of the rows of a table.
pub row_within : {g : Ghosts Line} (t : Terms) (l : Line) (rows : Rows Line g) (i : ℕ) → Some i ≡ first_of_key t l (rows_seen rows) → i < rows.len
row_within {g} t l rows i e = omega (arith, key_within t l (rows_seen rows) i (sym e), length_rows g.WIDTH g.made rows.len rows.cells.now)

pub take_found : (t : Terms) (l : Line) (xs : List Line) (i : ℕ) → Some i ≡ first_of_key t l xs → take_line t l xs ≡ taken_at l i xs
take_found t l xs i e = take_placed t l xs ∙ ap (λ k. taken_at l k xs) (sym (key_found t l xs i (sym e)))

pub take_none : (t : Terms) (l : Line) (xs : List Line) → None ≡ first_of_key t l xs → take_line t l xs ≡ xs
unfolding taken_at
take_none t l xs e =
    let i = take_place t l xs in
    let h = key_missed t l xs (sym e) in
    take_placed t l xs ∙ rw (drop_all i xs h) (append-nil (take i xs) ∙ take_all i xs h)

-- At a place where a line stands.
module _ (l : Line) (i : ℕ) (xs : List Line) (h : i < length xs) where
  pub taken_gone : (get_or xs i l).visits ≡ l.visits → taken_at l i xs ≡ remove xs i
  unfolding taken_at
  taken_gone q = rw (drop-cons xs i l h, eq-eqb (get_or xs i l).visits l.visits q)

  pub taken_less : ((get_or xs i l).visits ≡ l.visits → ⊥) → taken_at l i xs ≡ set xs i (line_minus (get_or xs i l) l)
  unfolding taken_at
  taken_less q = rw (drop-cons xs i l h, set_split xs i (line_minus (get_or xs i l) l) h, ne_eqb (get_or xs i l).visits l.visits q)

-- A place at which there is no line is behind all of them.
pub none_there : (xs : List Line) (i : ℕ) → slice_get xs i ≡ None → length xs ≤ i
none_there xs i e = grind (arith, slice_get_cases xs i)

module _ (t : Terms) (l : Line) (xs : List Line) (i : ℕ) where
  pub add_last : i ≡ add_place t l xs → length xs ≤ i → add_line t l xs ≡ insert xs i l
  add_last at h = at_place_is (λ x. line_before t x l) (add_here t l) xs ∙ rw (sym at, drop_all i xs h)

  module _ (x : Line) (h : i < length xs) (e : x ≡ get_or xs i x) where
    here : drop i xs ≡ x ∷ drop (suc i) xs
    here = drop-cons xs i x h ∙ ap (λ y. y ∷ drop (suc i) xs) (sym e)

    pub add_to : i ≡ add_place t l xs → same_key t x l ≡ true → add_line t l xs ≡ set xs i (line_plus x l)
    add_to at q = at_place_is (λ y. line_before t y l) (add_here t l) xs ∙ rw (sym at, here, set_split xs i (line_plus x l) h) (simp q)

    pub add_between : i ≡ add_place t l xs → same_key t x l ≡ false → add_line t l xs ≡ insert xs i l
    add_between at q = at_place_is (λ y. line_before t y l) (add_here t l) xs ∙ rw (sym at, here) (simp q)
