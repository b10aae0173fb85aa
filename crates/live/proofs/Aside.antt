-- A visit that takes in others from the front, with the visits as they stand on the way: those taken in are behind all others.
use Rattle.std.proofs.Common.{◌≡◌, ℕ, ◌+◌, ◌-◌, ◌^◌, ◌<◌, ◌≤◌, List, [], ◌∷◌, ◌++◌, length, get_or, sum_by, sym, refl, ap, ◌∙◌, arith}
use Rattle.std.specs.List.{insert, remove}
use Rattle.std.proofs.lemmas.List.{append_assoc, append-nil, get_or_at, length-append, length_push}
use Rattle.std.proofs.lemmas.List.Edits.{insert_end}
use Rattle.std.proofs.lemmas.List.Sums.{sum_by-cons}
use Rattle.visit.specs.declared.Terms.{Terms}
use Rattle.visit.specs.declared.Visit.{Visit}
use Rattle.visit.specs.Visits.{merged}
use Rattle.live.specs.Steps.{step_of}
use Rattle.visit.specs.Sums.{counts, sums}
use Rattle.live.specs.Walk.{became, left_over, place_of, placed_of, taken_in}
use Rattle.live.specs.declared.steps.Step.TheVariants.{Take, Pass, Stop}
use Rattle.live.proofs.Stepping.{passed_before, stopped_neither, taken_near}

-- One element gone from a list that is cut at it.
removed_at : {X : Type 0} (xs : List X) (x : X) (ys : List X) → remove (xs ++ x ∷ ys) (length xs) ≡ xs ++ ys
removed_at [] x ys = refl
removed_at (y ∷ xs) x ys = ap (λ l. y ∷ l) (removed_at xs x ys)

-- Of the visits vs, as qs on the way: those passed, those ahead, and those taken in, behind all others.
pub record Walked (t : Terms) (start : Visit) (vs qs : List Visit) (v : Visit) (others at : ℕ) : Type 0 where
  pub front : List Visit
  pub rest : List Visit
  pub taken : List Visit
  pub passed : length front ≡ at
  pub ahead : at + length rest ≡ others
  pub rows : qs ≡ front ++ (rest ++ taken)
  pub lasting : left_over t start vs ≡ front ++ left_over t v rest
  pub absorbed : taken_in t start vs ≡ taken ++ taken_in t v rest
  pub becomes : became t start vs ≡ became t v rest
  pub place : place_of t start vs ≡ at + place_of t v rest
  pub count : counts rest + v.count < 2 ^ 64
  pub sum : sums rest + v.sum < 2 ^ 64

-- The walk is over: none is ahead, or the next is neither near nor before the visit.
abbrev Over : Terms → Visit → List Visit → Type 0
Over t v rest = (left_over t v rest ≡ rest) × (taken_in t v rest ≡ []) × (became t v rest ≡ v) × (place_of t v rest ≡ 0)

over_at_end : (t : Terms) (v : Visit) (rest : List Visit) → length rest ≡ 0 → Over t v rest
over_at_end t v [] none = (refl, refl, refl, refl)
over_at_end t v (x ∷ ws) none = absurd (omega arith)

module _ {t : Terms} {start : Visit} {vs : List Visit} where
  pub walked_none : (n : ℕ) → length vs ≡ n → counts vs + start.count < 2 ^ 64 → sums vs + start.sum < 2 ^ 64 → Walked t start vs vs start n 0
  walked_none n long count sum =
      record {
        front = [];
        rest = vs;
        taken = [];
        passed = refl;
        ahead = omega arith;
        rows = sym (append-nil vs);
        lasting = refl;
        absorbed = refl;
        becomes = refl;
        place = omega arith;
        count = count;
        sum = sum;
      }

  module _ {qs : List Visit} {v : Visit} {others at : ℕ} (so : Walked t start vs qs v others at) where
    -- The visit that is read is the first of those ahead.
    first_ahead : (x : Visit) (rest : List Visit) → 0 < length rest → x ≡ get_or (so.front ++ (rest ++ so.taken)) at x → (ws : List Visit) × (rest ≡ x ∷ ws)
    first_ahead x [] some read = absurd (omega arith)
    first_ahead x (y ∷ ws) some read = (ws, ap (λ z. z ∷ ws) (sym (read ∙ get_or_at so.front y (ws ++ so.taken) x at so.passed)))

    pub walked_next : (x : Visit) → at < others → x ≡ get_or qs at x → (ws : List Visit) × (so.rest ≡ x ∷ ws)
    walked_next x here read = first_ahead x so.rest (omega (arith, so.ahead)) (read ∙ ap (λ l. get_or l at x) so.rows)

    module _ (x : Visit) (next : (ws : List Visit) × (so.rest ≡ x ∷ ws)) where
      -- What one visit takes in, the ones ahead no longer have.
      pub share_taken : (f : Visit → ℕ) → sum_by f so.rest ≡ f x + sum_by f next.0
      share_taken f = ap (sum_by f) next.1 ∙ sum_by-cons f x next.0

      pub walked_past : Pass ≡ step_of t v x → Walked t start vs qs v others (at + 1)
      walked_past step =
          let far = (passed_before t v x step).0 in
          let before = (passed_before t v x step).1 in
          let ws = next.0 in
          let first = next.1 in
          let one : (l : List Visit) → so.front ++ (x ∷ l) ≡ (so.front ++ x ∷ []) ++ l = λ l. sym (append_assoc so.front (x ∷ []) l) in
          record {
            front = so.front ++ x ∷ [];
            rest = ws;
            taken = so.taken;
            passed = length_push so.front x ∙ ap (λ k. k + 1) so.passed;
            ahead = omega (arith, so.ahead, ap length first);
            rows = so.rows ∙ ap (λ l. so.front ++ (l ++ so.taken)) first ∙ one (ws ++ so.taken);
            lasting = so.lasting ∙ ap (λ l. so.front ++ left_over t v l) first ∙ simp (far, before) (one (left_over t v ws));
            absorbed = so.absorbed ∙ ap (λ l. so.taken ++ taken_in t v l) first ∙ simp (far, before);
            becomes = so.becomes ∙ ap (became t v) first ∙ simp (far, before);
            place = so.place ∙ ap (λ l. at + place_of t v l) first ∙ simp (far, before) (omega arith);
            count = omega (arith, so.count, share_taken (λ u. u.count));
            sum = omega (arith, so.sum, share_taken (λ u. u.sum));
          }

      -- It goes, and comes back behind all others.
      pub walked_taken : Take ≡ step_of t v x → (k : ℕ) (ps : List Visit) → k ≡ length (remove qs at) → ps ≡ insert (remove qs at) k x
          → Walked t start vs ps (merged v x) (others - 1) at
      walked_taken step k ps end put =
          let is_near = taken_near t v x step in
          let ws = next.0 in
          let first = next.1 in
          let gone : remove qs at ≡ so.front ++ (ws ++ so.taken) =
          ap (λ l. remove l at) (so.rows ∙ ap (λ l. so.front ++ (l ++ so.taken)) first) ∙ ap (remove _) (sym so.passed) ∙ removed_at so.front x (ws ++ so.taken) in
          record {
            front = so.front;
            rest = ws;
            taken = so.taken ++ x ∷ [];
            passed = so.passed;
            ahead = omega (arith, so.ahead, ap length first);
            rows = put ∙ ap (λ j. insert (remove qs at) j x) end ∙ insert_end (remove qs at) x ∙ ap (λ l. l ++ x ∷ []) gone
                ∙ append_assoc so.front (ws ++ so.taken) (x ∷ []) ∙ ap (λ l. so.front ++ l) (append_assoc ws so.taken (x ∷ []));
            lasting = so.lasting ∙ ap (λ l. so.front ++ left_over t v l) first ∙ simp is_near;
            absorbed = so.absorbed ∙ ap (λ l. so.taken ++ taken_in t v l) first ∙ simp is_near (sym (append_assoc so.taken (x ∷ []) (taken_in t (merged v x) ws)));
            becomes = so.becomes ∙ ap (became t v) first ∙ simp is_near;
            place = so.place ∙ ap (λ l. at + place_of t v l) first ∙ simp is_near;
            count = omega (arith, so.count, share_taken (λ u. u.count));
            sum = omega (arith, so.sum, share_taken (λ u. u.sum));
          }

    pub walked_end : others ≤ at → Over t v so.rest
    walked_end none = over_at_end t v so.rest (omega (arith, so.ahead))

    pub walked_stop : (x : Visit) (next : (ws : List Visit) × (so.rest ≡ x ∷ ws)) → Stop ≡ step_of t v x → Over t v so.rest
    walked_stop x next step =
        let far = (stopped_neither t v x step).0 in
        let after = (stopped_neither t v x step).1 in
        rw next.1 (simp (far, after), simp (far, after), simp (far, after), simp (far, after))

    pub walked_placed : Over t v so.rest → record { visit = v; at = at; others = others } ≡ placed_of t start vs
    walked_placed end =
        let visit : v ≡ became t start vs = sym (so.becomes ∙ end.2) in
        let place : at ≡ place_of t start vs = omega (arith, so.place, end.3) in
        let lasting : length (left_over t start vs) ≡ length (so.front ++ so.rest) = ap length (so.lasting ∙ ap (λ l. so.front ++ l) end.0) in
        let many : others ≡ length (left_over t start vs) = omega (arith, lasting, length-append so.front so.rest, so.passed, so.ahead) in
        cc

    pub walked_rows : Over t v so.rest → qs ≡ left_over t start vs ++ taken_in t start vs
    walked_rows end =
        let lasting : left_over t start vs ≡ so.front ++ so.rest = so.lasting ∙ ap (λ l. so.front ++ l) end.0 in
        let taken : taken_in t start vs ≡ so.taken = so.absorbed ∙ ap (λ l. so.taken ++ l) end.1 ∙ append-nil so.taken in
        rw (lasting, taken, append_assoc so.front so.rest so.taken) so.rows
