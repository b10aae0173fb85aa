-- Sums that fit in 64 bits stay so as lines are put to a ledger and taken from it.
use Rattle.std.proofs.Common.{ℕ, ◌+◌, ◌≤◌, List, [], ◌∷◌, length, arith}
use Rattle.std.proofs.ByRecursion.{All-weaker}
use Rattle.std.proofs.lemmas.List.Sums.{sum_by-cons}
use Rattle.visit.specs.declared.Line.{Line}
use Rattle.visit.specs.declared.Terms.{Terms}
use Rattle.visit.specs.declared.Visit.{Visit}
use Rattle.visit.specs.Lines.{line_of}
use Rattle.model.specs.Ledger.{add_line, take_line, take_visits}
use Rattle.visit.specs.Sums.{sums}
use Rattle.model.proofs.Rising.{add_all, take_all}
use Rattle.ledger.specs.Fits.{Fits, FitsIn}

-- What fits leaves room for less.
pub fits_less : (k s j r : ℕ) (ls : List Line) → j ≤ k → r ≤ s → Fits k s ls → Fits j r ls
fits_less k s j r ls h o f =
    record {
      visits = omega (arith, f.visits);
      sum = omega (arith, f.sum);
      lines = All-weaker (FitsIn k s) (FitsIn j r) (λ l p. (omega (arith, p.0), omega (arith, p.1))) ls f.lines;
    }

-- A line put to the ledger uses up its own share of what fits.
pub fits_added : (t : Terms) (l : Line) (k s : ℕ) (ls : List Line) → Fits (l.visits + k) (l.sum + s) ls → Fits k s (add_line t l ls)
fits_added t l k s ls f =
    record {
      visits = omega (arith, f.visits);
      sum = omega (arith, f.sum);
      lines = add_all (FitsIn (l.visits + k) (l.sum + s)) (FitsIn k s) t l
          (λ x p. (omega (arith, p.0), omega (arith, p.1))) (λ x p. (omega (arith, p.0), omega (arith, p.1))) (f.visits, f.sum) ls f.lines;
    }

-- Where visits fit, so does the first one, and behind it the others.
module _ (t : Terms) (v : Visit) (vs : List Visit) (ls : List Line) (f : Fits (length (v ∷ vs)) (sums (v ∷ vs)) ls) where
  pub fits_first : Fits 1 v.sum ls
  fits_first = fits_less _ _ _ _ ls (omega arith) (omega (arith, sum_by-cons (λ (u : Visit). u.sum) v vs)) f

  pub fits_rest : Fits (length vs) (sums vs) (add_line t (line_of t v) ls)
  unfolding line_of
  fits_rest =
      fits_added t (line_of t v) (length vs) (sums vs) ls
      (fits_less _ _ _ _ ls (omega arith) (omega (arith, sum_by-cons (λ (u : Visit). u.sum) v vs)) f)

-- A line taken from the ledger leaves lines that are no larger.
pub fits_taken : (t : Terms) (l : Line) (k s : ℕ) (ls : List Line) → Fits k s ls → Fits k s (take_line t l ls)
fits_taken t l k s ls f =
    record {
      visits = f.visits;
      sum = f.sum;
      lines = take_all (FitsIn k s) t l (λ x p. (omega (arith, p.0), omega (arith, p.1))) ls f.lines;
    }

pub fits_visits_taken : (t : Terms) (vs : List Visit) (k s : ℕ) (ls : List Line) → Fits k s ls → Fits k s (take_visits t vs ls)
fits_visits_taken t [] k s ls f = f
fits_visits_taken t (v ∷ vs) k s ls f = fits_visits_taken t vs k s (take_line t (line_of t v) ls) (fits_taken t (line_of t v) k s ls f)
