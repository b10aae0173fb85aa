-- Calls one after another.
use Rattle.std.proofs.Common.{Err, ◌≡◌, ℕ, Bool, true, false, cond, ◌||◌, eqb, List, [], ◌∷◌, drop, sym, refl, ap, ◌∙◌, subst, ⊎_elim}
use Rattle.std.proofs.lemmas.Bool.{true≢false}
use Rattle.visit.specs.declared.Terms.{Terms}
use Rattle.command.specs.Numbers.{Reply, reply_number}
use Rattle.command.specs.Outcomes.{reply_of}
use Rattle.model.specs.Reference.{Reference, empty, outcome_by, state_by}
use Rattle.model.specs.Store.{Store}
use Rattle.model.proofs.Mirror.{image}
use Rattle.store.specs.Applied.{Applied}
use Rattle.store.specs.Contents.{empty_row}
use Rattle.store.specs.Layout.{store_size}
use Rattle.guarantees.specs.Calls.{Call, answer, row_left}
use Rattle.guarantees.specs.Faithful.{Faithful, RightAnswer, StoreFaithful, next, planned, reference_left, withheld}
use Rattle.guarantees.specs.Rows.{clean_row}
use Rattle.guarantees.proofs.Clean.{clean_store, empty_clean}
use Rattle.guarantees.proofs.Standing.{Heard, Standing, Withheld, empty_standing, one_call}

-- The reference after a reply that it heard of, or did not.
pub next_heard : (t : Terms) (k : Reference) (c : Call) (r : Reply) → withheld r ≡ false → next t k c r ≡ state_by k (planned t k c)
next_heard t k c r h = ap (λ (b : Bool). cond b k (state_by k (planned t k c))) h

pub next_withheld : (t : Terms) (k : Reference) (c : Call) (r : Reply) → withheld r ≡ true → next t k c r ≡ k
next_withheld t k c r h = ap (λ (b : Bool). cond b k (state_by k (planned t k c))) h

-- A number that is 1 or 7 is withheld, so none of a reply that is heard.
heard_full : (r : Reply) → withheld r ≡ false → reply_number r ≡ 7 → ⊥
heard_full r h e = let z : true ≡ false = sym (ap (λ (n : ℕ). eqb n 1 || eqb n 7) e) ∙ h in true≢false z

-- A call on a row that stands for a reference.
pub record Moved (t : Terms) (k : Reference) (rest : List ℕ) (c : Call) : Type 0 where
  pub right : RightAnswer t k c (answer (clean_row t (image t k) rest) c)
  pub stands : Standing t (next t k c (answer (clean_row t (image t k) rest) c).reply)
  pub store : (answer (clean_row t (image t k) rest) c).store ≡ clean_row t (image t (next t k c (answer (clean_row t (image t k) rest) c).reply)) rest

module _ (t : Terms) (k : Reference) (s : Standing t k) (rest : List ℕ) (c : Call) where
  abbrev answer_to_it : Applied
  answer_to_it = answer (clean_row t (image t k) rest) c

  moved_heard : Heard t k rest c → Moved t k rest c
  moved_heard h =
      let reply : answer_to_it.reply ≡ reply_of (outcome_by t k (planned t k c)) = ap (λ (a : Applied). a.reply) h.answered in
      let n : next t k c answer_to_it.reply ≡ state_by k (planned t k c) = ap (next t k c) reply ∙ next_heard t k c (reply_of (outcome_by t k (planned t k c))) h.heard in
      record {
        right =
            record {
              reply = λ _. reply;
              out = λ _. ap (λ (a : Applied). a.out) h.answered;
              full = λ e. absurd (heard_full answer_to_it.reply (ap withheld reply ∙ h.heard) e);
            };
        stands = subst (Standing t) (sym n) h.stands;
        store = ap (λ (a : Applied). a.store) h.answered ∙ sym (ap (λ (z : Reference). clean_row t (image t z) rest) n);
      }

  moved_withheld : Withheld t k rest c → Moved t k rest c
  moved_withheld h =
      let reply : answer_to_it.reply ≡ Err h.refusal = ap (λ (a : Applied). a.reply) h.answered in
      let hidden : withheld answer_to_it.reply ≡ true = ap withheld reply ∙ h.unheard in
      let n : next t k c answer_to_it.reply ≡ k = next_withheld t k c answer_to_it.reply hidden in
      record {
        right =
            record {
              reply = λ o. absurd (true≢false (sym hidden ∙ o));
              out = λ o. absurd (true≢false (sym hidden ∙ o));
              full = λ e. h.full (sym (ap reply_number reply) ∙ e);
            };
        stands = subst (Standing t) (sym n) s;
        store = ap (λ (a : Applied). a.store) h.answered ∙ sym (ap (λ (z : Reference). clean_row t (image t z) rest) n);
      }

  pub moved : Moved t k rest c
  moved = ⊎_elim moved_heard moved_withheld (one_call t k s rest c)

pub faithful_from : (t : Terms) (k : Reference) → Standing t k → (rest : List ℕ) (calls : List Call) → Faithful t k (clean_row t (image t k) rest) calls
faithful_from t k s rest [] = ap (λ (z : Store). z.ledger) (clean_store t (image t k) rest s.roomy.fits)
faithful_from t k s rest (c ∷ cs) =
    let m = moved t k s rest c in
    let k' : Reference = next t k c (answer (clean_row t (image t k) rest) c).reply in
    (ap (λ (z : Store). z.ledger) (clean_store t (image t k) rest s.roomy.fits), m.right, subst (λ (xs : List ℕ). Faithful t k' xs cs) (sym m.store) (faithful_from t k' m.stands rest cs))

pub store_faithful : StoreFaithful
store_faithful t xs calls = subst (λ (ys : List ℕ). Faithful t empty ys calls) (sym (empty_clean t xs)) (faithful_from t empty (empty_standing t) (drop store_size xs) calls)

-- What calls leave.
pub record Left (t : Terms) (k : Reference) (rest xs : List ℕ) (calls : List Call) : Type 0 where
  pub stands : Standing t (reference_left t k xs calls)
  pub row : row_left xs calls ≡ clean_row t (image t (reference_left t k xs calls)) rest

pub left_from : (t : Terms) (k : Reference) → Standing t k → (rest : List ℕ) (calls : List Call) → Left t k rest (clean_row t (image t k) rest) calls
left_from t k s rest [] = record { stands = s; row = refl }
left_from t k s rest (c ∷ cs) =
    let m = moved t k s rest c in
    let k' : Reference = next t k c (answer (clean_row t (image t k) rest) c).reply in
    let l : Left t k' rest (answer (clean_row t (image t k) rest) c).store cs = subst (λ (xs : List ℕ). Left t k' rest xs cs) (sym m.store) (left_from t k' m.stands rest cs) in
    record { stands = l.stands; row = l.row }

pub left_now : (t : Terms) (xs : List ℕ) (calls : List Call) → Left t empty (drop store_size xs) (empty_row t xs) calls
left_now t xs calls = subst (λ (ys : List ℕ). Left t empty (drop store_size xs) ys calls) (sym (empty_clean t xs)) (left_from t empty (empty_standing t) (drop store_size xs) calls)
