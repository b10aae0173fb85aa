-- Lines that are put to a ledger and taken from it: what holds of all its lines, and that lines in order stay so.
use Rattle.std.proofs.Common.{◌≡◌, true, false, cond, eqb, List, [], ◌∷◌, refl, ◌∙◌}
use Rattle.std.specs.List.{AllByRecursion}
use Rattle.std.proofs.ByRecursion.{All-weaker}
use Rattle.visit.specs.declared.Line.{Line}
use Rattle.visit.specs.declared.Terms.{Terms}
use Rattle.visit.specs.declared.Visit.{Visit}
use Rattle.visit.specs.Chains.{line_chained}
use Rattle.visit.specs.Lines.{line_before, line_minus, line_of, line_plus, same_key}
use Rattle.visit.specs.Order.{RisingBy}
use Rattle.model.specs.Ledger.{add_line, add_visits, take_line, take_visits}
use Rattle.model.specs.Store.{posted}
use Rattle.model.proofs.Common.{split}
use Rattle.model.proofs.Totals.{key_after, plus_before}

pub add_all : (P Q : Line → Type 0) (t : Terms) (l : Line) → ((x : Line) → P x → Q x) → ((x : Line) → P x → Q (line_plus x l)) → Q l → (xs : List Line) → AllByRecursion P xs → AllByRecursion Q (add_line t l xs)
add_all P Q t l stay plus own [] a = (own, tt)
add_all P Q t l stay plus own (x ∷ xs) a =
    elim (line_before t x l) as (λ b. AllByRecursion Q (cond b (x ∷ add_line t l xs) (cond (same_key t x l) (line_plus x l ∷ xs) (l ∷ x ∷ xs)))) [
      | true ↦ (stay x a.0, add_all P Q t l stay plus own xs a.1)
      | false ↦ elim (same_key t x l) as (λ b. AllByRecursion Q (cond b (line_plus x l ∷ xs) (l ∷ x ∷ xs))) [
        | true ↦ (plus x a.0, All-weaker P Q stay xs a.1)
        | false ↦ (own, (stay x a.0, All-weaker P Q stay xs a.1))
      ]
    ]

pub take_all : (P : Line → Type 0) (t : Terms) (l : Line) → ((x : Line) → P x → P (line_minus x l)) → (xs : List Line) → AllByRecursion P xs → AllByRecursion P (take_line t l xs)
take_all P t l minus [] a = tt
take_all P t l minus (x ∷ xs) a =
    elim (same_key t x l) as (λ b. AllByRecursion P (cond b (cond (eqb x.visits l.visits) xs (line_minus x l ∷ xs)) (x ∷ take_line t l xs))) [
      | true ↦ elim (eqb x.visits l.visits) as (λ b. AllByRecursion P (cond b xs (line_minus x l ∷ xs))) [
        | true ↦ a.1
        | false ↦ (minus x a.0, a.1)
      ]
      | false ↦ (a.0, take_all P t l minus xs a.1)
    ]

-- A share put to a line or taken from it leaves its key.
before_plus : (t : Terms) (l x a : Line) → line_before t l x ≡ true → line_before t l (line_plus x a) ≡ true
unfolding line_before
before_plus t l x a h = h

before_minus : (t : Terms) (l x a : Line) → line_before t l x ≡ true → line_before t l (line_minus x a) ≡ true
unfolding line_before
before_minus t l x a h = h

minus_before : (t : Terms) (a b c : Line) → line_before t (line_minus a b) c ≡ line_before t a c
unfolding line_before
minus_before t a b c = refl

-- A line put to lines in order.
pub rising_line : (t : Terms) (a : Line) (ls : List Line) → RisingBy (line_before t) ls → RisingBy (line_before t) (add_line t a ls)
rising_line t a [] r = (tt, tt)
rising_line t a (x ∷ xs) r =
    split (line_before t x a)
    (λ o. simp o (add_all (λ y. line_before t x y ≡ true) (λ y. line_before t x y ≡ true) t a (λ y q. q) (λ y q. before_plus t x y a q) o xs r.0, rising_line t a xs r.1))
    (λ o. split (same_key t x a)
    (λ k. simp (o, k) (All-weaker (λ y. line_before t x y ≡ true) (λ y. line_before t (line_plus x a) y ≡ true) (λ y q. plus_before t x a y ∙ q) xs r.0, r.1))
    (λ k.
    let n = key_after t x a o k in
    simp (o, k) ((n, All-weaker (λ y. line_before t x y ≡ true) (λ y. line_before t a y ≡ true) (λ y q. line_chained t a x y n q) xs r.0), r)))

pub rising_taken : (t : Terms) (a : Line) (ls : List Line) → RisingBy (line_before t) ls → RisingBy (line_before t) (take_line t a ls)
rising_taken t a [] r = tt
rising_taken t a (x ∷ xs) r =
    split (same_key t x a)
    (λ k. split (eqb x.visits a.visits)
    (λ o. simp (k, o) r.1)
    (λ o. simp (k, o) (All-weaker (λ y. line_before t x y ≡ true) (λ y. line_before t (line_minus x a) y ≡ true) (λ y q. minus_before t x a y ∙ q) xs r.0, r.1)))
    (λ k. simp k (take_all (λ y. line_before t x y ≡ true) t a (λ y q. before_minus t x y a q) xs r.0, rising_taken t a xs r.1))

-- Visits, and all that a command changes.
pub rising_visits : (t : Terms) (vs : List Visit) (ls : List Line) → RisingBy (line_before t) ls → RisingBy (line_before t) (add_visits t vs ls)
rising_visits t [] ls r = r
rising_visits t (v ∷ vs) ls r = rising_visits t vs (add_line t (line_of t v) ls) (rising_line t (line_of t v) ls r)

pub rising_visits_taken : (t : Terms) (vs : List Visit) (ls : List Line) → RisingBy (line_before t) ls → RisingBy (line_before t) (take_visits t vs ls)
rising_visits_taken t [] ls r = r
rising_visits_taken t (v ∷ vs) ls r = rising_visits_taken t vs (take_line t (line_of t v) ls) (rising_taken t (line_of t v) ls r)

pub rising_posted : (t : Terms) (gone new : List Visit) (ls : List Line) → RisingBy (line_before t) ls → RisingBy (line_before t) (posted t gone new ls)
rising_posted t gone new ls r = rising_visits t new (take_visits t gone ls) (rising_visits_taken t gone ls r)
