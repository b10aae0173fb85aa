-- Changes add up: taking out what is retracted and putting in what is added gives the closed visits.
use Rattle.std.proofs.Common.{◌≡◌, ◌≤◌, Bool, true, false, not, ◌&&◌, List, [], ◌∷◌, Ok, Err, Decides, filter, Result, sym, refl, ap, ◌∙◌, subst, arith}
use Rattle.std.specs.List.{ContainsAt as Has, AllByRecursion}
use Rattle.std.proofs.ByRecursion.{all_has_itself, all_kept_by, All-weaker, kept_by_passes}
use Rattle.std.proofs.lemmas.Bool.{both_ways, not-true}
use Rattle.std.proofs.lemmas.Bool.Decides.{nat_tests}
use Rattle.visit.specs.declared.Terms.{Terms}
use Rattle.visit.specs.declared.Visit.{Visit}
use Rattle.visit.specs.Order.{RisingBy}
use Rattle.visit.specs.Visits.{closed, same_visit, visit_before}
use Rattle.command.specs.declared.Command.{Command}
use Rattle.command.specs.declared.Refusal.{Refusal}
use Rattle.model.specs.AddsUp.{AllSound, ChangesAddUp, Sound, applied_all, applied_to, put_all_in, put_in}
use Rattle.model.specs.Reference.{Reference, after, closed_of, empty, outcome_by, outcomes, plan, state_by, step}
use Rattle.model.specs.Sessions.{changes, difference, some, visits}
use Rattle.model.proofs.Common.{same_itself, same_visits, some_kept}
use Rattle.model.proofs.Order.{Apart, Follows, SortedReadings, step_sorted, visits_apart}
use Rattle.model.proofs.Same.{rising_kept, same_members, some_decides}

-- Visits that are the same are one, so looking for a visit decides whether a list has it.
pub same_decides : (t : Terms) (v w : Visit) → Decides (same_visit t v w) (w ≡ v)
same_decides t v w = grind (arith, nat_tests, same_itself t v, same_visits)

-- Whether a visit is in a list.
abbrev pub is_in : Terms → Visit → List Visit → Bool
is_in t v vs = some (same_visit t v) vs

pub in_decides : (t : Terms) (v : Visit) (vs : List Visit) → Decides (is_in t v vs) (Has vs v)
in_decides t v vs = some_decides (same_visit t v) v (same_decides t v) vs

-- Visits rise by their order where they are apart, and no two come each before the other.
follows_before : (t : Terms) (v : Visit) → v.from ≤ v.to → (w : Visit) → Follows t v w → visit_before t v w ≡ true
unfolding visit_before
follows_before t v h w f = grind (arith, nat_tests)

pub visit_strict : (t : Terms) (v w : Visit) → visit_before t v w ≡ true → visit_before t w v ≡ true → ⊥
unfolding visit_before
visit_strict t v w p q = grind (arith, nat_tests)

pub apart_rising : (t : Terms) (vs : List Visit) → Apart t vs → RisingBy (visit_before t) vs
apart_rising t [] a = tt
apart_rising t (v ∷ vs) a = (All-weaker (Follows t v) (λ w. visit_before t v w ≡ true) (follows_before t v a.0) vs a.1, apart_rising t vs a.2)

pub closed_rising : (t : Terms) (k : Reference) → SortedReadings t k.readings → RisingBy (visit_before t) (closed_of t k)
closed_rising t k s = rising_kept (visit_before t) (closed t k.watermark) (visits t k.readings) (apart_rising t (visits t k.readings) (visits_apart t k.readings s))

-- So two lists of visits that rise are one if the same visits are in them.
pub same_in : (t : Terms) (vs ws : List Visit) → RisingBy (visit_before t) vs → RisingBy (visit_before t) ws → ((z : Visit) → is_in t z vs ≡ is_in t z ws) → vs ≡ ws
same_in t vs ws r s e =
    same_members (visit_before t) (visit_strict t) vs ws r s
    (λ z h. (in_decides t z ws).0 (sym (e z) ∙ (in_decides t z vs).1 h)) (λ z h. (in_decides t z vs).0 (e z ∙ (in_decides t z ws).1 h))

-- What is before all others stays in front, and what is put in before all others goes there.
put_all_behind : (t : Terms) (b : Visit) (ns vs : List Visit) → AllByRecursion (λ n. visit_before t b n ≡ true) ns → put_all_in t ns (b ∷ vs) ≡ b ∷ put_all_in t ns vs
put_all_behind t b [] vs a = refl
put_all_behind t b (n ∷ ns) vs a = simp a.0 (put_all_behind t b ns (put_in t n vs) a.1)

put_in_front : (t : Terms) (b : Visit) (vs : List Visit) → AllByRecursion (λ v. visit_before t b v ≡ true) vs → put_in t b vs ≡ b ∷ vs
put_in_front t b [] a = refl
put_in_front t b (v ∷ vs) a = grind (arith, nat_tests, visit_strict)

-- What a filter passes over, put in again, gives the list.
put_back : (t : Terms) (p q : Visit → Bool) → ((v : Visit) → q v ≡ not (p v)) → (vs : List Visit) → RisingBy (visit_before t) vs
    → put_all_in t (filter q vs) (filter p vs) ≡ vs
put_back t p q other [] r = refl
put_back t p q other (v ∷ vs) r = grind (arith, nat_tests, put_back t p q other vs r.1, put_all_behind t v (filter q vs) (filter p vs) (all_kept_by q (λ w. visit_before t v w ≡ true) vs r.0), all_kept_by q (λ w. visit_before t v w ≡ true) vs r.0, put_in_front t v (filter p vs) (all_kept_by p (λ w. visit_before t v w ≡ true) vs r.0), all_kept_by p (λ w. visit_before t v w ≡ true) vs r.0)

-- What stays of one list is what is in both, and so a part of the other.
both_in : (a b : Bool) → (not (not b && a) && a) ≡ (a && b)
both_in true true = refl
both_in true false = refl
both_in false true = refl
both_in false false = refl

stays : (t : Terms) (vs ws : List Visit) → RisingBy (visit_before t) vs → RisingBy (visit_before t) ws
    → difference t vs (difference t vs ws) ≡ filter (λ w. is_in t w vs) ws
stays t vs ws r s =
    same_in t (difference t vs (difference t vs ws)) (filter (λ w. is_in t w vs) ws)
    (rising_kept (visit_before t) (λ v. not (is_in t v (difference t vs ws))) vs r) (rising_kept (visit_before t) (λ w. is_in t w vs) ws s)
    (λ z. some_kept t (λ v. not (is_in t v (difference t vs ws))) z vs
    ∙ (ap (λ (b : Bool). not b && is_in t z vs) (some_kept t (λ v. not (is_in t v ws)) z vs)
    ∙ (both_in (is_in t z vs) (is_in t z ws) ∙ sym (some_kept t (λ w. is_in t w vs) z ws))))

pub changes_applied : (t : Terms) (vs ws : List Visit) → RisingBy (visit_before t) vs → RisingBy (visit_before t) ws
    → applied_to t vs (changes t vs ws) ≡ ws
changes_applied t vs ws r s = grind (arith, nat_tests, stays t vs ws r s, put_back t (λ w. is_in t w vs) (λ w. not (is_in t w vs)) (λ w. refl) ws s)

-- What is retracted was there, what is added was not.
pub changes_sound : (t : Terms) (vs ws : List Visit) → Sound vs (changes t vs ws)
changes_sound t vs ws = (
  all_kept_by (λ v. not (is_in t v ws)) (Has vs) vs (all_has_itself vs),
  All-weaker (λ w. not (is_in t w vs) ≡ true) (λ w. Has vs w → ⊥)
      (λ w q h. both_ways (is_in t w vs) (not-true (is_in t w vs) q) ((in_decides t w vs).1 h))
      (difference t ws vs) (kept_by_passes (λ w. not (is_in t w vs)) ws),
)

-- One command, by its plan, and all of them.
pub applied_outcome : (t : Terms) (k : Reference) (r : Result Reference Refusal) → SortedReadings t k.readings → SortedReadings t (state_by k r).readings
    → applied_to t (closed_of t k) (outcome_by t k r) ≡ closed_of t (state_by k r)
applied_outcome t k (Ok next) s n = changes_applied t (closed_of t k) (closed_of t next) (closed_rising t k s) (closed_rising t next n)
applied_outcome t k (Err e) s n = refl

pub sound_outcome : (t : Terms) (k : Reference) (r : Result Reference Refusal) → Sound (closed_of t k) (outcome_by t k r)
sound_outcome t k (Ok next) = changes_sound t (closed_of t k) (closed_of t next)
sound_outcome t k (Err e) = tt

pub applied_outcomes : (t : Terms) (k : Reference) (cs : List Command) → SortedReadings t k.readings
    → applied_all t (closed_of t k) (outcomes t k cs) ≡ closed_of t (after t k cs)
applied_outcomes t k [] s = refl
applied_outcomes t k (c ∷ cs) s =
    let n = step_sorted t k c s in
    ap (λ (vs : List Visit). applied_all t vs (outcomes t (step t k c) cs)) (applied_outcome t k (plan t k c) s n)
    ∙ applied_outcomes t (step t k c) cs n

pub sound_outcomes : (t : Terms) (k : Reference) (cs : List Command) → SortedReadings t k.readings → AllSound t (closed_of t k) (outcomes t k cs)
sound_outcomes t k [] s = tt
sound_outcomes t k (c ∷ cs) s =
    let n = step_sorted t k c s in (
      sound_outcome t k (plan t k c),
      subst (λ (vs : List Visit). AllSound t vs (outcomes t (step t k c) cs)) (sym (applied_outcome t k (plan t k c) s n)) (sound_outcomes t (step t k c) cs n),
    )

pub changes_add_up : ChangesAddUp
changes_add_up t cs = record { whole = applied_outcomes t empty cs tt; sound = sound_outcomes t empty cs tt }
