-- Counts and sums of visits and lines come to those of the readings that were taken in.
use Rattle.std.proofs.Common.{◌≡◌, ℕ, ◌+◌, ◌<◌, ◌≤◌, Bool, not, List, [], ◌∷◌, length, sum_by, filter, refl, arith}
use Rattle.std.specs.List.{AllByRecursion}
use Rattle.std.proofs.ByRecursion.{All-weaker}
use Rattle.std.proofs.lemmas.List.Filters.{sum_by-filter_both}
use Rattle.std.proofs.lemmas.List.Sums.{sum_by-cons}
use Rattle.visit.specs.declared.Line.{Line}
use Rattle.visit.specs.declared.Reading.{Reading}
use Rattle.visit.specs.declared.Terms.{Terms}
use Rattle.visit.specs.declared.Visit.{Visit}
use Rattle.visit.specs.Lines.{line_of, line_plus}
use Rattle.visit.specs.Visits.{grown, joins, single}
use Rattle.model.specs.Ledger.{add_line, add_visits, totals}
use Rattle.model.specs.Sessions.{prepend, visits}
use Rattle.model.proofs.Common.{split}
use Rattle.model.proofs.Lines.{sums_of_lines, visits_of_lines}

-- Each is at most the sum of all.
pub each_in_sum : {X : Type 0} (f : X → ℕ) (xs : List X) → AllByRecursion (λ x. f x ≤ sum_by f xs) xs
each_in_sum f [] = tt
each_in_sum f (x ∷ xs) = grind (arith, sum_by-cons f x xs, each_in_sum f xs, All-weaker)

pub kept_sum : {X : Type 0} (f : X → ℕ) (p : X → Bool) (xs : List X) → sum_by f (filter p xs) ≤ sum_by f xs
kept_sum f p xs = omega (arith, sum_by-filter_both p (λ x. not (p x)) (λ _. refl) f xs)

-- A reading in front adds one to the counts and its amount to the sums, and one visit at most.
count_prepend : (t : Terms) (e : Reading) (vs : List Visit) → sum_by (λ v. v.count) (prepend t e vs) ≡ 1 + sum_by (λ v. v.count) vs
count_prepend t e [] = refl
count_prepend t e (v ∷ vs) =
    let f : Visit → ℕ = λ w. w.count in
    let old = sum_by-cons f v vs in
    split (joins t e v)
    (λ o. let new = sum_by-cons f (grown e v) vs in simp o (omega arith))
    (λ o. let new = sum_by-cons f (single e) (v ∷ vs) in simp o (omega arith))

sum_prepend : (t : Terms) (e : Reading) (vs : List Visit) → sum_by (λ v. v.sum) (prepend t e vs) ≡ e.amount + sum_by (λ v. v.sum) vs
sum_prepend t e [] = omega arith
sum_prepend t e (v ∷ vs) =
    let f : Visit → ℕ = λ w. w.sum in
    let old = sum_by-cons f v vs in
    split (joins t e v)
    (λ o. let new = sum_by-cons f (grown e v) vs in simp o (omega arith))
    (λ o. let new = sum_by-cons f (single e) (v ∷ vs) in simp o (omega arith))

length_prepend : (t : Terms) (e : Reading) (vs : List Visit) → length (prepend t e vs) ≤ 1 + length vs
length_prepend t e [] = omega arith
length_prepend t e (v ∷ vs) = grind arith

pub counts_taken : (t : Terms) (es : List Reading) → sum_by (λ v. v.count) (visits t es) ≡ length es
counts_taken t [] = refl
counts_taken t (e ∷ es) = grind (arith, count_prepend t e (visits t es), counts_taken t es)

pub sums_taken : (t : Terms) (es : List Reading) → sum_by (λ v. v.sum) (visits t es) ≡ sum_by (λ e. e.amount) es
sums_taken t [] = refl
sums_taken t (e ∷ es) = grind (arith, sum_prepend t e (visits t es), sums_taken t es, sum_by-cons (λ (x : Reading). x.amount) e es)

pub few_visits : (t : Terms) (es : List Reading) → length (visits t es) ≤ length es
few_visits t [] = omega arith
few_visits t (e ∷ es) = omega (arith, length_prepend t e (visits t es), few_visits t es)

-- The first and last times of visits are times of readings.
prepend_times : (t : Terms) (n : ℕ) (e : Reading) (vs : List Visit) → e.time < n → AllByRecursion (λ v. (v.from < n) × (v.to < n)) vs → AllByRecursion (λ v. (v.from < n) × (v.to < n)) (prepend t e vs)
prepend_times t n e [] h a = ((h, h), tt)
prepend_times t n e (v ∷ vs) h a = grind arith

pub visit_times : (t : Terms) (n : ℕ) (es : List Reading) → AllByRecursion (λ e. e.time < n) es → AllByRecursion (λ v. (v.from < n) × (v.to < n)) (visits t es)
visit_times t n [] a = tt
visit_times t n (e ∷ es) a = prepend_times t n e (visits t es) a.0 (visit_times t n es a.1)

-- Adding a line adds its share to the sum over all lines.
sum_add_line : (t : Terms) (f : Line → ℕ) → ((x a : Line) → f (line_plus x a) ≡ f x + f a) → (a : Line) (ls : List Line) → sum_by f (add_line t a ls) ≡ f a + sum_by f ls
sum_add_line t f h a [] = sum_by-cons f a []
sum_add_line t f h a (x ∷ xs) = grind (arith, sum_add_line t f h a xs, sum_by-cons f x xs, sum_by-cons f x (add_line t a xs), sum_by-cons f (line_plus x a) xs, sum_by-cons f a (x ∷ xs))

sum_add_visits : (t : Terms) (f : Line → ℕ) → ((x a : Line) → f (line_plus x a) ≡ f x + f a) → (vs : List Visit) (ls : List Line)
    → sum_by f (add_visits t vs ls) ≡ sum_by (λ v. f (line_of t v)) vs + sum_by f ls
sum_add_visits t f h [] ls = omega arith
sum_add_visits t f h (v ∷ vs) ls = grind (arith, sum_add_visits t f h vs (add_line t (line_of t v) ls), sum_add_line t f h (line_of t v) ls, sum_by-cons (λ w. f (line_of t w)) v vs)

pub total_visits : (t : Terms) (vs : List Visit) → sum_by (λ l. l.visits) (totals t vs) ≡ length vs
total_visits t vs = grind (arith, sum_add_visits t (λ l. l.visits) (λ x y. refl) vs [], visits_of_lines t vs)

pub total_sum : (t : Terms) (vs : List Visit) → sum_by (λ l. l.sum) (totals t vs) ≡ sum_by (λ v. v.sum) vs
total_sum t vs = grind (arith, sum_add_visits t (λ l. l.sum) (λ x y. refl) vs [], sums_of_lines t vs)
