-- Sums over whole lists: what each visit has comes from its readings, so it fits where their sum does.
use Rattle.std.proofs.Common.{◌≡◌, ℕ, ◌+◌, ◌≤◌, List, [], ◌∷◌, ◌++◌, length, sum_by, refl, ap, ◌∙◌, arith}
use Rattle.std.proofs.lemmas.List.Sums.{sum_by-append, sum_by-cons}
use Rattle.visit.specs.declared.Reading.{Reading}
use Rattle.visit.specs.declared.Terms.{Terms}
use Rattle.visit.specs.declared.Visit.{Visit}
use Rattle.visit.specs.Visits.{grown, single}
use Rattle.model.specs.Sessions.{insert_reading, prepend, visits}
use Rattle.visit.specs.Sums.{amounts, counts, sums}

-- A share f of a visit that comes from its readings' shares g.
abbrev pub Shares : (Visit → ℕ) → (Reading → ℕ) → Type 0
Shares f g = ((e : Reading) → f (single e) ≡ g e) × ((e : Reading) (v : Visit) → f (grown e v) ≡ f v + g e)

prepend_shares : (f : Visit → ℕ) (g : Reading → ℕ) → Shares f g → (t : Terms) (e : Reading) (vs : List Visit)
    → sum_by f (prepend t e vs) ≡ g e + sum_by f vs
prepend_shares f g s t e [] = rw (sum_by-cons f (single e) [], s.0 e) refl
prepend_shares f g s t e (v ∷ vs) =
    grind (arith, s.0 e, s.1 e v, sum_by-cons f v vs, sum_by-cons f (grown e v) vs, sum_by-cons f (single e) (v ∷ vs))

pub visits_shares : (f : Visit → ℕ) (g : Reading → ℕ) → Shares f g → (t : Terms) (es : List Reading)
    → sum_by f (visits t es) ≡ sum_by g es
visits_shares f g s t [] = refl
visits_shares f g s t (e ∷ es) =
    omega (arith, prepend_shares f g s t e (visits t es), visits_shares f g s t es, sum_by-cons g e es)

pub visits_sums : (t : Terms) (es : List Reading) → sums (visits t es) ≡ amounts es
visits_sums = visits_shares (λ v. v.sum) (λ e. e.amount) ((λ e. refl), (λ e v. refl))

pub ones : (es : List Reading) → sum_by (λ e. 1) es ≡ length es
ones [] = refl
ones (e ∷ es) = omega (arith, ones es, sum_by-cons (λ (x : Reading). 1) e es)

pub visits_counts : (t : Terms) (es : List Reading) → counts (visits t es) ≡ length es
visits_counts t es = visits_shares (λ v. v.count) (λ e. 1) ((λ e. refl), (λ e v. refl)) t es ∙ ones es

-- What the readings behind one and that one have is among all.
pub shares_behind : (g : Reading → ℕ) (all rest done : List Reading) (e : Reading) → all ≡ (rest ++ e ∷ []) ++ done → sum_by g done + g e ≤ sum_by g all
shares_behind g all rest done e h =
    omega (
      arith,
      ap (λ es. sum_by g es) h,
      sum_by-append g (rest ++ e ∷ []) done,
      sum_by-append g rest (e ∷ []),
      sum_by-cons g e [],
    )

-- A reading put at its place adds its share.
pub insert_shares : (g : Reading → ℕ) (t : Terms) (e : Reading) (xs : List Reading) → sum_by g (insert_reading t e xs) ≡ sum_by g xs + g e
insert_shares g t e [] = omega (arith, sum_by-cons g e [])
insert_shares g t e (x ∷ xs) =
    grind (arith, insert_shares g t e xs, sum_by-cons g x xs, sum_by-cons g x (insert_reading t e xs), sum_by-cons g e (x ∷ xs))

pub insert_length : (t : Terms) (e : Reading) (xs : List Reading) → length (insert_reading t e xs) ≡ length xs + 1
insert_length t e xs = omega (arith, ones xs, ones (insert_reading t e xs), insert_shares (λ x. 1) t e xs)
