-- What a merging is made of: the visits taken in, those left over, what the visit becomes, and its place.
use Rattle.std.proofs.Common.{◌≡◌, ℕ, suc, ◌+◌, ◌≤◌, List, [], ◌∷◌, length, sum_by, refl, ap, ◌∙◌, arith}
use Rattle.std.specs.List.{insert}
use Rattle.std.proofs.lemmas.List.Edits.{length-insert}
use Rattle.std.proofs.lemmas.List.Sums.{sum_by-cons}
use Rattle.visit.specs.declared.Terms.{Terms}
use Rattle.visit.specs.declared.Visit.{Visit}
use Rattle.visit.specs.Visits.{merged, near, visit_before}
use Rattle.model.specs.Few.{merged_with}
use Rattle.model.specs.Store.{merge_in}
use Rattle.model.proofs.Common.{split}
use Rattle.live.specs.Walk.{became, left_over, place_of, taken_in}

pub merge_parts : (t : Terms) (v : Visit) (vs : List Visit) → merge_in t v vs ≡ insert (left_over t v vs) (place_of t v vs) (became t v vs)
merge_parts t v [] = refl
merge_parts t v (w ∷ ws) =
    let next : 1 + place_of t v ws ≡ suc (place_of t v ws) = omega arith in
    split (near t v w)
    (λ n. simp n (merge_parts t (merged v w) ws))
    (λ n. split (visit_before t w v) (λ b. simp (n, b, next) (ap (λ l. w ∷ l) (merge_parts t v ws))) (λ b. simp (n, b)))

pub place_within : (t : Terms) (v : Visit) (vs : List Visit) → place_of t v vs ≤ length (left_over t v vs)
place_within t v [] = omega arith
place_within t v (w ∷ ws) =
    split (near t v w)
    (λ n. simp n (place_within t (merged v w) ws))
    (λ n. split (visit_before t w v) (λ b. simp (n, b) (omega (arith, place_within t v ws))) (λ b. simp (n, b) (omega arith)))

pub length_parts : (t : Terms) (v : Visit) (vs : List Visit) → length (left_over t v vs) + length (taken_in t v vs) ≡ length vs
length_parts t v [] = omega arith
length_parts t v (w ∷ ws) =
    split (near t v w)
    (λ n. simp n (omega (arith, length_parts t (merged v w) ws)))
    (λ n. split (visit_before t w v) (λ b. simp (n, b) (omega (arith, length_parts t v ws))) (λ b. simp (n, b) (omega arith)))

pub taken_within : (t : Terms) (v : Visit) (vs : List Visit) (n : ℕ) → length vs ≡ n → place_of t v vs + length (taken_in t v vs) ≤ n
taken_within t v vs n long = omega (arith, place_within t v vs, length_parts t v vs)

pub left_within : (t : Terms) (v : Visit) (vs : List Visit) (n : ℕ) → length vs ≡ n → length (left_over t v vs) ≤ n
left_within t v vs n long = omega (arith, length_parts t v vs)

pub length_merged : (t : Terms) (v : Visit) (vs : List Visit) → length (merge_in t v vs) ≡ length (left_over t v vs) + 1
length_merged t v vs = ap length (merge_parts t v vs) ∙ length-insert (left_over t v vs) (place_of t v vs) (became t v vs) (place_within t v vs)

-- What the visit becomes, by those that it takes in one after the other.
pub became_merged : (t : Terms) (v : Visit) (vs : List Visit) → became t v vs ≡ merged_with v (taken_in t v vs)
became_merged t v [] = refl
became_merged t v (w ∷ ws) =
    split (near t v w)
    (λ n. simp n (became_merged t (merged v w) ws))
    (λ n. split (visit_before t w v) (λ b. simp (n, b) (became_merged t v ws)) (λ b. simp (n, b)))

-- No more is taken in than there is.
pub share_taken_in : (f : Visit → ℕ) (t : Terms) (v : Visit) (vs : List Visit) → sum_by f (taken_in t v vs) ≤ sum_by f vs
share_taken_in f t v [] = omega arith
share_taken_in f t v (w ∷ ws) =
    let all = sum_by-cons f w ws in
    split (near t v w)
    (λ n. simp n (omega (arith, sum_by-cons f w (taken_in t (merged v w) ws), share_taken_in f t (merged v w) ws)))
    (λ n. split (visit_before t w v) (λ b. simp (n, b) (omega (arith, share_taken_in f t v ws))) (λ b. simp (n, b) (omega arith)))
