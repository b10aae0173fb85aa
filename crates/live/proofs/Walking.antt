-- A visit merged in from the front, with the visits as they stand on the way: those taken in are gone.
use Rattle.std.proofs.Common.{◌≡◌, ℕ, suc, ◌+◌, ◌^◌, ◌<◌, ◌≤◌, List, [], ◌∷◌, ◌++◌, length, get_or, take, drop, sum_by, sym, refl, ap, ◌∙◌, arith}
use Rattle.std.specs.List.{insert, remove}
use Rattle.std.proofs.lemmas.List.{append_assoc, drop_all, drop_at, drop_more, length-take-le, take_at, take_more}
use Rattle.std.proofs.lemmas.List.Edits.{length-remove}
use Rattle.std.proofs.lemmas.List.Sums.{sum_by-append, sum_by-drop_more, sum_by-take-drop}
use Rattle.visit.specs.declared.Terms.{Terms}
use Rattle.visit.specs.declared.Visit.{Visit}
use Rattle.visit.specs.Sums.{counts, sums}
use Rattle.visit.specs.Visits.{merged}
use Rattle.model.specs.Store.{merge_in}
use Rattle.live.specs.Steps.{step_of}
use Rattle.live.specs.declared.steps.Step.TheVariants.{Take, Pass, Stop}
use Rattle.live.proofs.Stepping.{passed_before, stopped_neither, taken_near}

-- Of the visits vs, as qs on the way: the first `at` are passed, and the visit, grown by those taken in, is to be merged into the others.
pub record Merging (t : Terms) (start : Visit) (vs qs : List Visit) (v : Visit) (at : ℕ) : Type 0 where
  pub place : at ≤ length qs
  pub rows : take at qs ++ merge_in t v (drop at qs) ≡ merge_in t start vs
  pub count : counts qs + v.count < 2 ^ 64
  pub sum : sums qs + v.sum < 2 ^ 64

pub merging_none : (t : Terms) (start : Visit) (vs : List Visit) → counts vs + start.count < 2 ^ 64 → sums vs + start.sum < 2 ^ 64 → Merging t start vs vs start 0
merging_none t start vs count sum = record { place = omega arith; rows = refl; count = count; sum = sum }

module _ {t : Terms} {start : Visit} {vs qs : List Visit} {v : Visit} {at : ℕ} (so : Merging t start vs qs v at) where
  -- None is left, so the visit comes behind all.
  pub merging_end : length qs ≤ at → insert qs at v ≡ merge_in t start vs
  merging_end none =
      let gone = drop_all at qs none in
      ap (λ l. take at qs ++ v ∷ l) gone ∙ ap (λ l. take at qs ++ merge_in t v l) (sym gone) ∙ so.rows

  module _ (x : Visit) (here : at < length qs) (read : x ≡ get_or qs at x) where
    abbrev behind : List Visit
    behind = drop (at + 1) qs

    cut : drop at qs ≡ x ∷ behind
    cut = drop_more qs at x here ∙ ap (λ y. y ∷ behind) (sym read)

    -- What one visit takes in, the others no longer have.
    pub share_gone : (f : Visit → ℕ) → sum_by f (remove qs at) + f x ≡ sum_by f qs
    share_gone f =
        let next : at + 1 ≡ suc at = omega arith in
        omega (arith, ap (λ k. sum_by f (drop k qs)) next, sum_by-append f (take at qs) (drop (suc at) qs), sum_by-take-drop f qs at, sum_by-drop_more f qs at x here, ap f read)

    pub merging_taken : Take ≡ step_of t v x → Merging t start vs (remove qs at) (merged v x) at
    merging_taken step =
        let is_near = taken_near t v x step in
        let long : length (take at qs) ≡ at = length-take-le at qs (omega arith) in
        let one : merge_in t v (x ∷ behind) ≡ merge_in t (merged v x) behind = simp is_near in
        let next : at + 1 ≡ suc at = omega arith in
        let rest = drop (suc at) qs in
        record {
          place = omega (arith, length-remove qs at here);
          rows = ap (λ l. l ++ merge_in t (merged v x) (drop at (remove qs at))) (take_at (take at qs) rest at long)
              ∙ ap (λ l. take at qs ++ merge_in t (merged v x) l) (drop_at (take at qs) rest at long)
              ∙ ap (λ k. take at qs ++ merge_in t (merged v x) (drop k qs)) (sym next)
              ∙ ap (λ l. take at qs ++ l) (sym one) ∙ ap (λ l. take at qs ++ merge_in t v l) (sym cut) ∙ so.rows;
          count = omega (arith, so.count, share_gone (λ u. u.count));
          sum = omega (arith, so.sum, share_gone (λ u. u.sum));
        }

    pub merging_past : Pass ≡ step_of t v x → Merging t start vs qs v (at + 1)
    merging_past step =
        let far = (passed_before t v x step).0 in
        let before = (passed_before t v x step).1 in
        let more : take (at + 1) qs ≡ take at qs ++ x ∷ [] = take_more qs at x here ∙ ap (λ y. take at qs ++ y ∷ []) (sym read) in
        let one : merge_in t v (x ∷ behind) ≡ x ∷ merge_in t v behind = simp (far, before) in
        record {
          place = omega arith;
          rows = ap (λ l. l ++ merge_in t v behind) more ∙ append_assoc (take at qs) (x ∷ []) (merge_in t v behind)
              ∙ ap (λ l. take at qs ++ l) (sym one) ∙ ap (λ l. take at qs ++ merge_in t v l) (sym cut) ∙ so.rows;
          count = so.count;
          sum = so.sum;
        }

    pub merging_stop : Stop ≡ step_of t v x → insert qs at v ≡ merge_in t start vs
    merging_stop step =
        let far = (stopped_neither t v x step).0 in
        let after = (stopped_neither t v x step).1 in
        let one : merge_in t v (x ∷ behind) ≡ v ∷ x ∷ behind = simp (far, after) in
        ap (λ l. take at qs ++ v ∷ l) cut ∙ ap (λ l. take at qs ++ l) (sym one) ∙ ap (λ l. take at qs ++ merge_in t v l) (sym cut) ∙ so.rows
