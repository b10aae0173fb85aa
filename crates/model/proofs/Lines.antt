-- The ledger by card and day: its keys rise, and each line has the number and the sum of its visits.
use Rattle.std.proofs.Common.{◌≡◌, ℕ, ◌+◌, ◌-◌, ◌≤◌, Bool, true, false, cond, ◌&&◌, eqb, List, [], ◌∷◌, length, sum_by, filter, refl, ap, ◌∙◌, arith}
use Rattle.std.specs.List.{AllByRecursion}
use Rattle.std.proofs.ByRecursion.{All-weaker}
use Rattle.std.proofs.lemmas.List.Sums.{sum_by-cons}
use Rattle.std.proofs.lemmas.Bool.Decides.{nat_tests}
use Rattle.visit.specs.declared.Line.{Line}
use Rattle.visit.specs.declared.Terms.{Terms}
use Rattle.visit.specs.declared.Visit.{Visit}
use Rattle.visit.specs.Lines.{line_before, line_of, line_plus, same_key}
use Rattle.visit.specs.Order.{RisingBy}
use Rattle.model.specs.Ledger.{add_line, add_visits, take_line, take_visits, totals}
use Rattle.model.specs.Store.{posted}
use Rattle.model.specs.Unseen.{Lined, TotalsRight, entry, lines_for, visits_for}
use Rattle.model.proofs.Common.{kept_none}
use Rattle.model.proofs.Rising.{rising_line, rising_taken}
use Rattle.model.proofs.Totals.{Filled, filled_line, line_parts, one_visit}

-- Lines in order, each with visits.
lined_parts : (t : Terms) (ls : List Line) → Lined t ls → Filled ls × RisingBy (line_before t) ls
lined_parts t [] p = (tt, tt)
lined_parts t (l ∷ ls) p = let ih = lined_parts t ls p.2 in ((p.0, ih.0), (p.1, ih.1))

lined_of : (t : Terms) (ls : List Line) → Filled ls → RisingBy (line_before t) ls → Lined t ls
lined_of t [] f r = tt
lined_of t (l ∷ ls) f r = (f.0, r.0, lined_of t ls f.1 r.1)

-- Adding a line keeps a ledger so.
pub lined_line : (t : Terms) (a : Line) (ls : List Line) → 1 ≤ a.visits → Lined t ls → Lined t (add_line t a ls)
lined_line t a ls h p =
    let both = lined_parts t ls p in
    lined_of t (add_line t a ls) (filled_line t a ls h both.0) (rising_line t a ls both.1)

pub lined_visits : (t : Terms) (vs : List Visit) (ls : List Line) → Lined t ls → Lined t (add_visits t vs ls)
lined_visits t [] ls p = p
lined_visits t (v ∷ vs) ls p = lined_visits t vs (add_line t (line_of t v) ls) (lined_line t (line_of t v) ls (one_visit t v) p)

single_line : (t : Terms) (v : Visit) → (line_of t v).visits ≡ 1
unfolding line_of
single_line t v = refl

-- Taking a visit's line keeps it so too, and so does the whole of what a command does to a ledger.
visits_left : (n m : ℕ) → 1 ≤ n → m ≡ 1 → eqb n m ≡ false → 1 ≤ n - m
visits_left n m h o e = grind (arith, nat_tests)

filled_taken : (t : Terms) (a : Line) (ls : List Line) → a.visits ≡ 1 → Filled ls → Filled (take_line t a ls)
filled_taken t a [] h f = tt
filled_taken t a (x ∷ xs) h f = grind (arith, nat_tests, filled_taken t a xs h f.1, visits_left x.visits a.visits f.0 h)

pub lined_take : (t : Terms) (a : Line) (ls : List Line) → a.visits ≡ 1 → Lined t ls → Lined t (take_line t a ls)
lined_take t a ls h p =
    let both = lined_parts t ls p in
    lined_of t (take_line t a ls) (filled_taken t a ls h both.0) (rising_taken t a ls both.1)

pub lined_take_visits : (t : Terms) (vs : List Visit) (ls : List Line) → Lined t ls → Lined t (take_visits t vs ls)
lined_take_visits t [] ls p = p
lined_take_visits t (v ∷ vs) ls p = lined_take_visits t vs (take_line t (line_of t v) ls) (lined_take t (line_of t v) ls (single_line t v) p)

pub lined_posted : (t : Terms) (gone new : List Visit) (ls : List Line) → Lined t ls → Lined t (posted t gone new ls)
lined_posted t gone new ls p = lined_visits t new (take_visits t gone ls) (lined_take_visits t gone ls p)

-- A line that is added adds its number of visits, or its sum, to what the lines of its key have.
abbrev has_key : ℕ → ℕ → Line → Bool
has_key card day l = eqb l.card card && eqb l.day day

key_alike : (t : Terms) (card day : ℕ) (x a : Line) → same_key t x a ≡ true → has_key card day x ≡ has_key card day a
unfolding same_key
key_alike t card day x a h = grind (arith, nat_tests)

first_in : {X : Type 0} (f : X → ℕ) (p : X → Bool) (x : X) (xs : List X) → sum_by f (filter p (x ∷ xs)) ≡ cond (p x) (f x) 0 + sum_by f (filter p xs)
first_in f p x xs = grind (arith, nat_tests, sum_by-cons f x (filter p xs))

sum_line : (t : Terms) (card day : ℕ) (f : Line → ℕ) → ((x a : Line) → f (line_plus x a) ≡ f x + f a) → (a : Line) (ls : List Line)
    → sum_by f (lines_for card day (add_line t a ls)) ≡ sum_by f (lines_for card day ls) + cond (has_key card day a) (f a) 0
sum_line t card day f h a [] = first_in f (has_key card day) a [] ∙ omega arith
sum_line t card day f h a (x ∷ xs) = grind (arith, nat_tests, sum_line t card day f h a xs, first_in f (has_key card day) x xs, first_in f (has_key card day) x (add_line t a xs), first_in f (has_key card day) (line_plus x a) xs, first_in f (has_key card day) a (x ∷ xs), key_alike)

sum_visits : (t : Terms) (card day : ℕ) (f : Line → ℕ) → ((x a : Line) → f (line_plus x a) ≡ f x + f a) → (vs : List Visit) (ls : List Line)
    → sum_by f (lines_for card day (add_visits t vs ls)) ≡ sum_by f (lines_for card day ls) + sum_by (λ v. f (line_of t v)) (filter (λ v. has_key card day (line_of t v)) vs)
sum_visits t card day f h [] ls = omega arith
sum_visits t card day f h (v ∷ vs) ls = grind (arith, nat_tests, sum_visits t card day f h vs (add_line t (line_of t v) ls), sum_line t card day f h (line_of t v) ls, first_in (λ w. f (line_of t w)) (λ w. has_key card day (line_of t w)) v vs)

-- The line of a visit has its card, its day and its sum, and one visit.
key_of_visit : (t : Terms) (card day : ℕ) (vs : List Visit) → filter (λ v. has_key card day (line_of t v)) vs ≡ visits_for t card day vs
unfolding line_of
key_of_visit t card day vs = refl

pub visits_of_lines : (t : Terms) (vs : List Visit) → sum_by (λ v. (line_of t v).visits) vs ≡ length vs
visits_of_lines t [] = refl
visits_of_lines t (v ∷ vs) = grind (arith, nat_tests, visits_of_lines t vs, single_line t v, sum_by-cons (λ w. (line_of t w).visits) v vs)

pub sums_of_lines : (t : Terms) (vs : List Visit) → sum_by (λ v. (line_of t v).sum) vs ≡ sum_by (λ v. v.sum) vs
unfolding line_of
sums_of_lines t vs = refl

-- In a ledger in order the lines of a key are none, or one with visits.
other_key : (t : Terms) (card day : ℕ) (l x : Line) → has_key card day l ≡ true → line_before t l x ≡ true → has_key card day x ≡ false
unfolding line_before
other_key t card day l x h b = grind (arith, nat_tests)

none_after : (t : Terms) (card day : ℕ) (l : Line) (ls : List Line) → has_key card day l ≡ true → AllByRecursion (λ x. line_before t l x ≡ true) ls → lines_for card day ls ≡ []
none_after t card day l ls h a =
    kept_none (has_key card day) ls (All-weaker (λ x. line_before t l x ≡ true) (λ x. has_key card day x ≡ false) (λ x b. other_key t card day l x h b) ls a)

one_entry : (card day : ℕ) (l : Line) → has_key card day l ≡ true → 1 ≤ l.visits → l ∷ [] ≡ entry card day (0 + l.visits) (0 + l.sum)
one_entry card day l h p = grind (arith, nat_tests, line_parts)

pub lined_entry : (t : Terms) (card day : ℕ) (ls : List Line) → Lined t ls
    → lines_for card day ls ≡ entry card day (sum_by (λ l. l.visits) (lines_for card day ls)) (sum_by (λ l. l.sum) (lines_for card day ls))
lined_entry t card day [] p = refl
lined_entry t card day (l ∷ ls) p = grind (arith, nat_tests, lined_entry t card day ls p.2, none_after, one_entry)

-- The number of visits and the sum of each card and day.
visits_right : (t : Terms) (card day : ℕ) (vs : List Visit) → sum_by (λ l. l.visits) (lines_for card day (totals t vs)) ≡ length (visits_for t card day vs)
visits_right t card day vs = grind (arith, nat_tests, sum_visits t card day (λ l. l.visits) (λ x y. refl) vs [], visits_of_lines t (filter (λ v. has_key card day (line_of t v)) vs), key_of_visit t card day vs)

sums_right : (t : Terms) (card day : ℕ) (vs : List Visit) → sum_by (λ l. l.sum) (lines_for card day (totals t vs)) ≡ sum_by (λ v. v.sum) (visits_for t card day vs)
sums_right t card day vs = grind (arith, nat_tests, sum_visits t card day (λ l. l.sum) (λ x y. refl) vs [], sums_of_lines t (filter (λ v. has_key card day (line_of t v)) vs), key_of_visit t card day vs)

pub totals_right : TotalsRight
totals_right t vs = (
  lined_visits t vs [] tt,
  λ card day.
      lined_entry t card day (totals t vs) (lined_visits t vs [] tt)
      ∙ ap (λ (n : ℕ). entry card day n (sum_by (λ l. l.sum) (lines_for card day (totals t vs)))) (visits_right t card day vs)
      ∙ ap (λ (n : ℕ). entry card day (length (visits_for t card day vs)) n) (sums_right t card day vs),
)
