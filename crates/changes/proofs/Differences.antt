-- Whether a visit is among others, and differences of visits that pass a test.
use Rattle.std.proofs.Common.{◌≡◌, ℕ, ◌≤◌, Bool, true, false, not, ◌&&◌, List, [], ◌∷◌, filter, refl, ap, ◌∙◌, arith}
use Rattle.std.specs.List.{AllByRecursion}
use Rattle.std.proofs.ByRecursion.{All-weaker}
use Rattle.std.proofs.lemmas.Bool.Decides.{nat_tests}
use Rattle.visit.specs.declared.Terms.{Terms}
use Rattle.visit.specs.declared.Visit.{Visit}
use Rattle.visit.specs.Visits.{closed, same_visit}
use Rattle.model.specs.Sessions.{closed_visits, difference, some}
use Rattle.model.proofs.Common.{In, all_in, kept_agree, kept_alike, kept_none, kept_twice, some_kept}
use Rattle.changes.specs.Changed.{OnlyNewlyClosed, closed_besides}

-- Visits that are the same are one, so a test tells the same of both.
pub difference_kept : (t : Terms) (p q : Visit → Bool) (vs ws : List Visit)
    → difference t (filter p vs) (filter q ws) ≡ filter (λ v. p v && not (q v && some (same_visit t v) ws)) vs
difference_kept t p q vs ws =
    kept_twice (λ v. not (some (same_visit t v) (filter q ws))) p vs
    ∙ kept_alike (λ v. p v && not (some (same_visit t v) (filter q ws))) (λ v. p v && not (q v && some (same_visit t v) ws)) (λ v. ap (λ (b : Bool). p v && not b) (some_kept t q v ws)) vs

-- Of closed visits those are missed that are not among all others.
both_once : (a b : Bool) → (a && not (a && b)) ≡ (a && not b)
both_once true b = refl
both_once false b = refl

pub closed_difference : (t : Terms) (m : ℕ) (vs ws : List Visit) → difference t (closed_visits t m vs) (closed_visits t m ws) ≡ filter (closed_besides t m ws) vs
closed_difference t m vs ws =
    difference_kept t (closed t m) (closed t m) vs ws
    ∙ kept_alike (λ v. closed t m v && not (closed t m v && some (same_visit t v) ws)) (closed_besides t m ws) (λ v. both_once (closed t m v) (some (same_visit t v) ws)) vs

-- Of one list, those that pass the one test and not the other.
among_itself : (a b c : Bool) → c ≡ true → (a && not (b && c)) ≡ (a && not b)
among_itself a true c h = simp h
among_itself a false c h = refl

pub kept_difference : (t : Terms) (p q : Visit → Bool) (vs : List Visit) → difference t (filter p vs) (filter q vs) ≡ filter (λ v. p v && not (q v)) vs
kept_difference t p q vs =
    difference_kept t p q vs vs
    ∙ kept_agree (λ v. p v && not (q v && some (same_visit t v) vs)) (λ v. p v && not (q v)) vs
    (All-weaker (In t vs) (λ v. (p v && not (q v && some (same_visit t v) vs)) ≡ (p v && not (q v))) (λ v h. among_itself (p v) (q v) (some (same_visit t v) vs) h) vs (all_in t vs))

-- What is closed stays closed as the watermark rises.
stays_closed : (t : Terms) (from to : ℕ) → from ≤ to → (v : Visit) → (closed t from v && not (closed t to v)) ≡ false
unfolding closed
stays_closed t from to h v = grind (arith, nat_tests)

all_such : {X : Type 0} (P : X → Type 0) → ((x : X) → P x) → (xs : List X) → AllByRecursion P xs
all_such P f [] = tt
all_such P f (x ∷ xs) = (f x, all_such P f xs)

pub only_newly_closed : OnlyNewlyClosed
only_newly_closed t from to vs h =
    let gone = kept_difference t (closed t from) (closed t to) vs ∙ kept_none (λ v. closed t from v && not (closed t to v)) vs (all_such (λ v. (closed t from v && not (closed t to v)) ≡ false) (stays_closed t from to h) vs) in
    let new = kept_difference t (closed t to) (closed t from) vs in
    cc (gone, new)
