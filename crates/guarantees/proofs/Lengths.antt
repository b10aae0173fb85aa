-- How long the lists of a store become by a command.
use Rattle.std.proofs.Common.{◌≡◌, ℕ, ◌+◌, ◌≤◌, not, ◌&&◌, List, [], ◌∷◌, length, refl, ◌∙◌, arith}
use Rattle.std.proofs.ByRecursion.{all_kept_by, All-weaker}
use Rattle.std.proofs.lemmas.List.Filters.{length-filter_both}
use Rattle.std.proofs.lemmas.Bool.Decides.{nat_tests}
use Rattle.visit.specs.declared.Line.{Line}
use Rattle.visit.specs.declared.Reading.{Reading}
use Rattle.visit.specs.declared.Terms.{Terms}
use Rattle.visit.specs.declared.Visit.{Visit}
use Rattle.visit.specs.Lines.{line_of}
use Rattle.visit.specs.Visits.{closed, live, merged, same_visit}
use Rattle.model.specs.Ledger.{add_line, add_visits, take_line, take_visits}
use Rattle.model.specs.Sessions.{closed_visits, difference, insert_reading, some}
use Rattle.model.specs.Store.{live_only, merge_in, posted}
use Rattle.model.proofs.Common.{In, all_in, kept_agree, kept_alike, kept_commute, kept_shorter, kept_twice, some_kept}
use Rattle.live.specs.Tables.{open_only}

-- A visit merged in adds one at most, a reading put in adds one.
pub length_merge : (t : Terms) (u : Visit) (vs : List Visit) → length (merge_in t u vs) ≤ length vs + 1
length_merge t u [] = omega arith
length_merge t u (v ∷ vs) = grind (arith, nat_tests, length_merge t (merged u v) vs, length_merge t u vs)

pub length-insert : (t : Terms) (e : Reading) (xs : List Reading) → length (insert_reading t e xs) ≡ length xs + 1
length-insert t e [] = refl
length-insert t e (x ∷ xs) = grind (arith, nat_tests, length-insert t e xs)

-- A visit that is added brings a line at most, one that is taken away brings none.
length_add_line : (t : Terms) (l : Line) (ls : List Line) → length (add_line t l ls) ≤ length ls + 1
length_add_line t l [] = omega arith
length_add_line t l (x ∷ xs) = grind (arith, nat_tests, length_add_line t l xs)

length_take_line : (t : Terms) (l : Line) (ls : List Line) → length (take_line t l ls) ≤ length ls
length_take_line t l [] = omega arith
length_take_line t l (x ∷ xs) = grind (arith, nat_tests, length_take_line t l xs)

length_add_visits : (t : Terms) (vs : List Visit) (ls : List Line) → length (add_visits t vs ls) ≤ length ls + length vs
length_add_visits t [] ls = omega arith
length_add_visits t (v ∷ vs) ls = omega (arith, length_add_visits t vs (add_line t (line_of t v) ls), length_add_line t (line_of t v) ls)

length_take_visits : (t : Terms) (vs : List Visit) (ls : List Line) → length (take_visits t vs ls) ≤ length ls
length_take_visits t [] ls = omega arith
length_take_visits t (v ∷ vs) ls = omega (arith, length_take_visits t vs (take_line t (line_of t v) ls), length_take_line t (line_of t v) ls)

pub length_posted : (t : Terms) (gone new : List Visit) (ls : List Line) → length (posted t gone new ls) ≤ length ls + length new
length_posted t gone new ls = omega (arith, length_add_visits t new (take_visits t gone ls), length_take_visits t gone ls)

-- Visits are closed or open; some of the open ones expire.
pub closed_or_open : (t : Terms) (m : ℕ) (vs : List Visit) → length (closed_visits t m vs) + length (open_only t m vs) ≡ length vs
closed_or_open t m vs = length-filter_both (closed t m) (λ v. not (closed t m v)) (λ _. refl) vs

pub fewer_open : (t : Terms) (m n : ℕ) (vs : List Visit) → length (open_only t m (live_only t n vs)) ≤ length (open_only t m vs)
fewer_open t m n vs = grind (arith, nat_tests, kept_commute (λ v. not (closed t m v)) (live t n) vs, kept_shorter (live t n) (open_only t m vs))

-- Of the visits that were open, those are new that the watermark n closes; the others stay open.
closed_in_list : (t : Terms) (m : ℕ) (vs : List Visit) → (v : Visit) → In t vs v → not (some (same_visit t v) (closed_visits t m vs)) ≡ not (closed t m v)
closed_in_list t m vs v h = grind (arith, nat_tests, some_kept t (closed t m) v vs)

new_were_open : (t : Terms) (m n : ℕ) (vs : List Visit) → difference t (closed_visits t n vs) (closed_visits t m vs) ≡ closed_visits t n (open_only t m vs)
new_were_open t m n vs =
    kept_agree (λ v. not (some (same_visit t v) (closed_visits t m vs))) (λ v. not (closed t m v)) (closed_visits t n vs)
    (all_kept_by (closed t n) (λ v. not (some (same_visit t v) (closed_visits t m vs)) ≡ not (closed t m v)) vs
    (All-weaker (In t vs) (λ v. not (some (same_visit t v) (closed_visits t m vs)) ≡ not (closed t m v)) (closed_in_list t m vs) vs (all_in t vs)))
    ∙ kept_commute (λ v. not (closed t m v)) (closed t n) vs

still_open : (t : Terms) (m n : ℕ) → m ≤ n → (v : Visit) → (not (closed t m v) && not (closed t n v)) ≡ not (closed t n v)
unfolding closed
still_open t m n h v = grind (arith, nat_tests)

pub new_or_open : (t : Terms) (m n : ℕ) (vs : List Visit) → m ≤ n
    → length (difference t (closed_visits t n vs) (closed_visits t m vs)) + length (open_only t n vs) ≡ length (open_only t m vs)
new_or_open t m n vs h = grind (arith, nat_tests, new_were_open t m n vs, kept_twice (λ v. not (closed t n v)) (λ v. not (closed t m v)) vs, kept_alike (λ v. not (closed t m v) && not (closed t n v)) (λ v. not (closed t n v)) (still_open t m n h) vs, still_open t m n h, closed_or_open t n (open_only t m vs))
