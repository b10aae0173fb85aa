-- How many lines there are once a line was put to a ledger or taken from it, or visits were taken.
use Rattle.std.proofs.Common.{suc, ◌+◌, ◌≤◌, true, false, cond, eqb, List, [], ◌∷◌, length, arith}
use Rattle.visit.specs.declared.Line.{Line}
use Rattle.visit.specs.declared.Terms.{Terms}
use Rattle.visit.specs.declared.Visit.{Visit}
use Rattle.visit.specs.Lines.{line_before, line_minus, line_of, line_plus, same_key}
use Rattle.model.specs.Ledger.{add_line, take_line, take_visits}

-- A line that is put makes one line more at most, and none less; one that is taken makes none more.
pub add_longer : (t : Terms) (l : Line) (xs : List Line) → (length xs ≤ length (add_line t l xs)) × (length (add_line t l xs) ≤ length xs + 1)
add_longer t l [] = (omega arith, omega arith)
add_longer t l (x ∷ xs) =
    let ih = add_longer t l xs in
    elim (line_before t x l) as (λ b. let ys = cond b (x ∷ add_line t l xs) (cond (same_key t x l) (line_plus x l ∷ xs) (l ∷ x ∷ xs)) in (suc (length xs) ≤ length ys) × (length ys ≤ suc (length xs) + 1)) [
      | true ↦ (omega (arith, ih.0), omega (arith, ih.1))
      | false ↦ elim (same_key t x l) as (λ b. let ys = cond b (line_plus x l ∷ xs) (l ∷ x ∷ xs) in (suc (length xs) ≤ length ys) × (length ys ≤ suc (length xs) + 1)) [
        | true ↦ (omega arith, omega arith)
        | false ↦ (omega arith, omega arith)
      ]
    ]

pub take_shorter : (t : Terms) (l : Line) (xs : List Line) → length (take_line t l xs) ≤ length xs
take_shorter t l [] = omega arith
take_shorter t l (x ∷ xs) =
    let ih = take_shorter t l xs in
    elim (same_key t x l) as (λ b. length (cond b (cond (eqb x.visits l.visits) xs (line_minus x l ∷ xs)) (x ∷ take_line t l xs)) ≤ suc (length xs)) [
      | true ↦ elim (eqb x.visits l.visits) as (λ b. length (cond b xs (line_minus x l ∷ xs)) ≤ suc (length xs)) [
        | true ↦ omega arith
        | false ↦ omega arith
      ]
      | false ↦ omega (arith, ih)
    ]

pub visits_shorter : (t : Terms) (vs : List Visit) (ls : List Line) → length (take_visits t vs ls) ≤ length ls
visits_shorter t [] ls = omega arith
visits_shorter t (v ∷ vs) ls = omega (arith, take_shorter t (line_of t v) ls, visits_shorter t vs (take_line t (line_of t v) ls))
