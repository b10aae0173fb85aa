-- Visits held backwards, the front visit last: what a reading that joins it does.
use Rattle.std.proofs.Common.{◌≡◌, ℕ, suc, ◌+◌, ◌<◌, true, List, [], ◌∷◌, ◌++◌, length, get_or, take, set, reverse, sym, ap, ◌∙◌, arith}
use Rattle.std.proofs.lemmas.List.{drop_all, drop_more, reverse-append, set_split, take-append-drop}
use Rattle.visit.specs.declared.Reading.{Reading}
use Rattle.visit.specs.declared.Terms.{Terms}
use Rattle.visit.specs.declared.Visit.{Visit}
use Rattle.visit.specs.Visits.{grown, joins}
use Rattle.model.specs.Sessions.{prepend}

split_last : {X : Type 0} (xs : List X) (i : ℕ) (x : X) → length xs ≡ i + 1 → x ≡ get_or xs i x → xs ≡ take i xs ++ x ∷ []
split_last xs i x n e =
    let within : i < length xs = omega arith in
    sym (take-append-drop i xs) ∙ ap (λ ys. take i xs ++ ys) (drop_more xs i x within ∙ ap (λ ys. get_or xs i x ∷ ys) (drop_all (i + 1) xs (omega arith)))
    ∙ ap (λ y. take i xs ++ y ∷ []) (sym e)

set_last : {X : Type 0} (xs : List X) (i : ℕ) (y : X) → length xs ≡ i + 1 → set xs i y ≡ take i xs ++ y ∷ []
set_last xs i y n = set_split xs i y (omega arith) ∙ ap (λ ys. take i xs ++ y ∷ ys) (drop_all (suc i) xs (omega arith))

pub prepend_joins : (t : Terms) (e : Reading) (xs : List Visit) (i : ℕ) (v : Visit) → length xs ≡ i + 1 → v ≡ get_or xs i v → joins t e v ≡ true
    → reverse (set xs i (grown e v)) ≡ prepend t e (reverse xs)
prepend_joins t e xs i v n is q =
    ap reverse (set_last xs i (grown e v) n) ∙ reverse-append (take i xs) (grown e v ∷ [])
    ∙ sym (rw (ap reverse (split_last xs i v n is), reverse-append (take i xs) (v ∷ [])) (simp q))
