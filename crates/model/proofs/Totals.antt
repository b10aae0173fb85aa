-- The ledger: the order in which visits are put to it does not matter, and taking undoes adding.
use Rattle.std.proofs.Common.{◌≡◌, ℕ, ◌+◌, ◌≤◌, Bool, true, false, not, eqb, List, [], ◌∷◌, filter, sym, refl, ◌∙◌, arith}
use mathlib.Core.Bool.{not-not, and_comm}
use Rattle.std.specs.List.{AllByRecursion}
use Rattle.std.proofs.lemmas.Bool.Decides.{nat_tests}
use Rattle.visit.specs.declared.Line.{Line}
use Rattle.visit.specs.declared.Terms.{Terms}
use Rattle.visit.specs.declared.Visit.{Visit}
use Rattle.visit.specs.Chains.{line_chained}
use Rattle.visit.specs.Lines.{line_before, line_minus, line_of, line_plus, same_key}
use Rattle.visit.specs.Visits.{same_visit, visit_before}
use Rattle.model.specs.Ledger.{add_line, add_visits, take_line, take_visits, totals}
use Rattle.model.specs.Sessions.{difference, some}
use Rattle.model.specs.Store.{posted}
use Rattle.model.proofs.Common.{some_kept}
use Rattle.model.proofs.Order.{Apart}
use Rattle.model.proofs.Same.{rising_kept}
use Rattle.model.proofs.Adding.{apart_rising, is_in, same_in}

-- The order of keys.
pub key_after : (t : Terms) (a b : Line) → line_before t a b ≡ false → same_key t a b ≡ false → line_before t b a ≡ true
unfolding line_before same_key
key_after t a b p q = grind (arith, nat_tests)

key_past : (t : Terms) (a b : Line) → line_before t a b ≡ true → (line_before t b a ≡ false) × (same_key t b a ≡ false) × (same_key t a b ≡ false)
unfolding line_before same_key
key_past t a b p = (grind (arith, nat_tests), grind (arith, nat_tests), grind (arith, nat_tests))

key_like : (t : Terms) (a b c : Line) → same_key t a b ≡ true → (line_before t a c ≡ line_before t b c) × (line_before t c a ≡ line_before t c b)
unfolding line_before same_key
key_like t a b c p = (grind (arith, nat_tests), grind (arith, nat_tests))

key_back : (t : Terms) (a b : Line) → same_key t a b ≡ true → (line_before t a b ≡ false) × (line_before t b a ≡ false) × (same_key t b a ≡ true)
unfolding line_before same_key
key_back t a b p = (grind (arith, nat_tests), grind (arith, nat_tests), grind (arith, nat_tests))

key_itself : (t : Terms) (a : Line) → (line_before t a a ≡ false) × (same_key t a a ≡ true)
unfolding line_before same_key
key_itself t a = (grind (arith, nat_tests), grind (arith, nat_tests))

-- A share put to a line leaves its key.
pub plus_before : (t : Terms) (a b c : Line) → line_before t (line_plus a b) c ≡ line_before t a c
unfolding line_before
plus_before t a b c = refl

plus_same : (t : Terms) (a b c : Line) → same_key t (line_plus a b) c ≡ same_key t a c
unfolding same_key
plus_same t a b c = refl

-- Shares put to a line in either order; one line put to another of its key, either way round; a share put to a line and taken again.
pub line_parts : (c d n s c' d' n' s' : ℕ) → c ≡ c' → d ≡ d' → n ≡ n' → s ≡ s'
    → ◌≡◌ {A = Line} (record { card = c; day = d; visits = n; sum = s }) (record { card = c'; day = d'; visits = n'; sum = s' })
line_parts c d n s c' d' n' s' p q r u = cc

plus_either : (x a b : Line) → line_plus (line_plus x b) a ≡ line_plus (line_plus x a) b
plus_either x a b = grind (arith, nat_tests, line_parts)

plus_round : (t : Terms) (a b : Line) → same_key t b a ≡ true → line_plus b a ≡ line_plus a b
unfolding same_key
plus_round t a b h = grind (arith, nat_tests, line_parts)

plus_minus : (x a : Line) → line_minus (line_plus x a) a ≡ x
plus_minus x a = grind (arith, nat_tests, line_parts)

-- Two lines put to a ledger, in either order.
first_swap : (t : Terms) (a b : Line) (xs : List Line) → add_line t a xs ≡ a ∷ xs → add_line t b xs ≡ b ∷ xs → add_line t a (b ∷ xs) ≡ add_line t b (a ∷ xs)
first_swap t a b xs p q = grind (arith, nat_tests, key_past, key_back, plus_round, key_after)

pub add_swap : (t : Terms) (a b : Line) (ls : List Line) → add_line t a (add_line t b ls) ≡ add_line t b (add_line t a ls)
add_swap t a b [] = first_swap t a b [] refl refl
add_swap t a b (x ∷ xs) = grind (arith, nat_tests, add_swap t a b xs, plus_before t x b a, plus_before t x a b, plus_same t x b a, plus_same t x a b, plus_either x a b, key_after, line_chained, key_like, first_swap)

-- Lines that all have visits.
abbrev pub Filled : List Line → Type 0
Filled ls = AllByRecursion (λ l. 1 ≤ l.visits) ls

pub filled_line : (t : Terms) (a : Line) (ls : List Line) → 1 ≤ a.visits → Filled ls → Filled (add_line t a ls)
filled_line t a [] h f = (h, tt)
filled_line t a (x ∷ xs) h f = grind (arith, nat_tests, filled_line t a xs h f.1)

-- A line that is put to such a ledger and taken again leaves it as it was.
more_visits : (n m : ℕ) → 1 ≤ n → eqb (n + m) m ≡ false
more_visits n m h = grind (arith, nat_tests)

same_visits_count : (n : ℕ) → eqb n n ≡ true
same_visits_count n = grind (arith, nat_tests)

pub take_undoes : (t : Terms) (a : Line) (ls : List Line) → Filled ls → take_line t a (add_line t a ls) ≡ ls
take_undoes t a [] f = simp ((key_itself t a).1, same_visits_count a.visits)
take_undoes t a (x ∷ xs) f = grind (arith, nat_tests, take_undoes t a xs f.1, plus_same t x a a, more_visits x.visits a.visits f.0, plus_minus x a, key_itself t a, same_visits_count a.visits, key_past)

-- The same of visits, one after the other.
pub one_visit : (t : Terms) (v : Visit) → 1 ≤ (line_of t v).visits
unfolding line_of
one_visit t v = omega arith

pub filled_visits : (t : Terms) (vs : List Visit) (ls : List Line) → Filled ls → Filled (add_visits t vs ls)
filled_visits t [] ls f = f
filled_visits t (v ∷ vs) ls f = filled_visits t vs (add_line t (line_of t v) ls) (filled_line t (line_of t v) ls (one_visit t v) f)

pub add_visits_line : (t : Terms) (vs : List Visit) (a : Line) (ls : List Line) → add_visits t vs (add_line t a ls) ≡ add_line t a (add_visits t vs ls)
add_visits_line t [] a ls = refl
add_visits_line t (v ∷ vs) a ls = grind (arith, nat_tests, add_swap t (line_of t v) a ls, add_visits_line t vs a (add_line t (line_of t v) ls))

pub take_visits_undoes : (t : Terms) (vs : List Visit) (ls : List Line) → Filled ls → take_visits t vs (add_visits t vs ls) ≡ ls
take_visits_undoes t [] ls f = refl
take_visits_undoes t (v ∷ vs) ls f = grind (arith, nat_tests, add_visits_line t vs (line_of t v) ls, take_undoes t (line_of t v) (add_visits t vs ls) (filled_visits t vs ls f), filled_visits t vs ls f, take_visits_undoes t vs ls f)

-- Visits may be put to a ledger in two parts.
pub add_parts : (t : Terms) (p q : Visit → Bool) → ((v : Visit) → q v ≡ not (p v)) → (vs : List Visit) (ls : List Line)
    → add_visits t vs ls ≡ add_visits t (filter p vs) (add_visits t (filter q vs) ls)
add_parts t p q h [] ls = refl
add_parts t p q h (v ∷ vs) ls = grind (arith, nat_tests, add_parts t p q h vs (add_line t (line_of t v) ls), add_visits_line t (filter q vs) (line_of t v) ls)

-- The visits of a list that are in another too.
abbrev pub shared : Terms → List Visit → List Visit → List Visit
shared t vs ws = filter (λ v. some (same_visit t v) ws) vs

-- Two lists in order share the same visits, either way round.
pub shared_round : (t : Terms) (vs ws : List Visit) → Apart t vs → Apart t ws → shared t vs ws ≡ shared t ws vs
shared_round t vs ws p q =
    same_in t (shared t vs ws) (shared t ws vs)
    (rising_kept (visit_before t) (λ v. is_in t v ws) vs (apart_rising t vs p)) (rising_kept (visit_before t) (λ w. is_in t w vs) ws (apart_rising t ws q))
    (λ z. some_kept t (λ v. is_in t v ws) z vs ∙ and_comm (is_in t z ws) (is_in t z vs) ∙ sym (some_kept t (λ w. is_in t w vs) z ws))

-- The ledger of the old visits, with what has gone taken and what is new added, is the ledger of the new ones.
totals_parts : (t : Terms) (vs ws : List Visit) → totals t vs ≡ add_visits t (difference t vs ws) (add_visits t (shared t vs ws) [])
totals_parts t vs ws = add_parts t (λ v. not (some (same_visit t v) ws)) (λ v. some (same_visit t v) ws) (λ v. sym (not-not (some (same_visit t v) ws))) vs []

pub posted_right : (t : Terms) (old new : List Visit) → Apart t old → Apart t new
    → posted t (difference t old new) (difference t new old) (totals t old) ≡ totals t new
posted_right t old new p q = grind (arith, nat_tests, totals_parts t old new, shared_round t old new p q, totals_parts t new old, take_visits_undoes, filled_visits)
