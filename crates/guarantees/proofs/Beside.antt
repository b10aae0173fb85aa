-- A run of the calls that some cards have to do with, beside the run of all.
use Rattle.std.proofs.Common.{◌≡◌, ℕ, Bool, true, false, List, [], ◌∷◌, drop, None, sym, refl, ap, ◌∙◌, subst}
use Rattle.std.proofs.lemmas.Bool.{cond-false, cond-true}
use Rattle.visit.specs.declared.Terms.{Terms}
use Rattle.command.specs.declared.Command.{Command}
use Rattle.command.specs.declared.Command.TheVariants.{Reading as AReading, Watermark}
use Rattle.command.specs.Outcomes.{Outcome}
use Rattle.model.specs.Reference.{Reference, closed_of, empty, outcome_by, state_by}
use Rattle.model.specs.Store.{Store}
use Rattle.model.proofs.Cards.{closed_of_part, part_by}
use Rattle.model.proofs.Common.{split}
use Rattle.model.proofs.Mirror.{image}
use Rattle.store.specs.Applied.{Applied}
use Rattle.store.specs.Contents.{empty_row, header_of}
use Rattle.command.specs.Cells.{command_in}
use Rattle.store.specs.Faults.{room_fault}
use Rattle.store.specs.Layout.{store_size}
use Rattle.guarantees.specs.AnyTime.{reference_now}
use Rattle.guarantees.specs.Calls.{Call, answer}
use Rattle.guarantees.specs.Cards.{RowCardsApart, calls_part, concerns, outcome_part, outcomes_part, store_part}
use Rattle.guarantees.specs.Faithful.{next, planned, reference_left, withheld}
use Rattle.guarantees.specs.Following.{outcome_read, outcomes_read}
use Rattle.guarantees.specs.Rows.{clean_row}
use Rattle.guarantees.specs.Unhindered.{Unhindered}
use Rattle.guarantees.proofs.Along.{left_now, moved, next_heard}
use Rattle.guarantees.proofs.Clean.{empty_clean}
use Rattle.guarantees.proofs.Follow.{heard_read}
use Rattle.guarantees.proofs.Limits.{Small, clean_small, clean_sound}
use Rattle.guarantees.proofs.Moments.{held_now}
use Rattle.guarantees.proofs.Parting.{image_part, outcome_of_part, planned_other, planned_part, room_part, small_part, state_part}
use Rattle.guarantees.proofs.Roomy.{watermark_free}
use Rattle.guarantees.proofs.Standing.{Standing, empty_standing}
use Rattle.guarantees.proofs.Withholding.{heard_open, open_heard}

-- On rows xs and ys, which stand for a reference and for its part, all calls and these: what is the same of them.
pub record Beside (t : Terms) (p : ℕ → Bool) (k j : Reference) (xs ys : List ℕ) (calls these : List Call) : Type 0 where
  pub unhindered : Unhindered ys these
  pub outcomes : outcomes_read ys these ≡ outcomes_part p xs calls
  pub left : reference_left t j ys these ≡ part_by p (reference_left t k xs calls)

module _ (t : Terms) (p : ℕ → Bool) (rest : List ℕ) where
  abbrev row_of : Reference → List ℕ
  row_of k = clean_row t (image t k) rest

  -- One call that concerns these cards.
  module _ (k : Reference) (s : Standing t k) (r : Standing t (part_by p k)) (c : Call) (taken : withheld (answer (row_of k) c).reply ≡ false) where
    free_part : (d : Command) → room_fault c.capacity (header_of t (image t k)) (image t k) d ≡ None
        → room_fault c.capacity (header_of t (image t (part_by p k))) (image t (part_by p k)) d ≡ None
    free_part (AReading e) h =
        subst (λ (z : Store). room_fault c.capacity (header_of t z) z (AReading e) ≡ None) (sym (image_part t p k s.sorted)) (room_part t p c.capacity (image t k) e h)
    free_part (Watermark m) h = watermark_free t (image t (part_by p k)) r.roomy c.capacity m

    part_open : withheld (answer (row_of (part_by p k)) c).reply ≡ false
    part_open =
        let o = heard_open t k s rest c taken in
        let small = small_part t p (image t k) (clean_small t (image t k) rest s.roomy.fits o.sound) in
        open_heard t (part_by p k) r rest c
        (record {
          sound = clean_sound t (image t (part_by p k)) rest r.roomy.fits (subst (λ (z : Store). Small z) (sym (image_part t p k s.sorted)) small);
          free = λ fine. free_part (command_in c.command) (o.free fine);
        })

    heard_next : next t k c (answer (row_of k) c).reply ≡ state_by k (planned t k c)
    heard_next = next_heard t k c (answer (row_of k) c).reply taken

    module _ (mine : concerns p c ≡ true) where
      part_next : next t (part_by p k) c (answer (row_of (part_by p k)) c).reply ≡ part_by p (next t k c (answer (row_of k) c).reply)
      part_next =
          next_heard t (part_by p k) c (answer (row_of (part_by p k)) c).reply part_open
          ∙ ap (state_by (part_by p k)) (planned_part t p k c s.sorted mine)
          ∙ state_part t p k (planned t k c)
          ∙ sym (ap (part_by p) heard_next)

      part_outcome : outcome_read (answer (row_of (part_by p k)) c) ≡ outcome_part p (outcome_read (answer (row_of k) c))
      part_outcome =
          let sorted = (subst (λ (j : Reference). Standing t j) heard_next (moved t k s rest c).stands).sorted in
          heard_read t (part_by p k) c (answer (row_of (part_by p k)) c) (moved t (part_by p k) r rest c).right part_open
          ∙ ap (outcome_by t (part_by p k)) (planned_part t p k c s.sorted mine)
          ∙ outcome_of_part t p k (planned t k c) s.sorted sorted
          ∙ sym (ap (outcome_part p) (heard_read t k c (answer (row_of k) c) (moved t k s rest c).right taken))

    other_next : concerns p c ≡ false → part_by p (next t k c (answer (row_of k) c).reply) ≡ part_by p k
    other_next h = ap (part_by p) heard_next ∙ planned_other t p k c s.sorted h

  -- All calls.
  beside_from : (k : Reference) → Standing t k → Standing t (part_by p k) → (calls : List Call) → Unhindered (row_of k) calls
      → Beside t p k (part_by p k) (row_of k) (row_of (part_by p k)) calls (calls_part p calls)
  beside_from k s r [] h = record { unhindered = tt; outcomes = refl; left = refl }
  beside_from k s r (c ∷ cs) h =
      let a : Applied = answer (row_of k) c in
      let m = moved t k s rest c in
      let k' : Reference = next t k c a.reply in
      let later : Unhindered (row_of k') cs = subst (λ (zs : List ℕ). Unhindered zs cs) m.store h.1 in
      let result : List Call → Type 0 = Beside t p k (part_by p k) (row_of k) (row_of (part_by p k)) (c ∷ cs) in
      split (concerns p c)
      (λ o.
      let b : Applied = answer (row_of (part_by p k)) c in
      let n = moved t (part_by p k) r rest c in
      let to = part_next k s r c h.0 o in
      let ih = beside_from k' m.stands (subst (Standing t) to n.stands) cs later in
      let row_next : b.store ≡ row_of (part_by p k') = n.store ∙ ap row_of to in
      let all : Beside t p k' (part_by p k') a.store b.store cs (calls_part p cs) =
      subst (λ (zs : List ℕ). Beside t p k' (part_by p k') zs b.store cs (calls_part p cs)) (sym m.store)
      (subst (λ (zs : List ℕ). Beside t p k' (part_by p k') (row_of k') zs cs (calls_part p cs)) (sym row_next) ih) in
      subst result (sym (cond-true (concerns p c) (c ∷ calls_part p cs) (calls_part p cs) o))
      (record {
        unhindered = (part_open k s r c h.0, all.unhindered);
        outcomes =
            ap (λ (q : Outcome). q ∷ outcomes_read b.store (calls_part p cs)) (part_outcome k s r c h.0 o)
            ∙ ap (λ (qs : List Outcome). outcome_part p (outcome_read a) ∷ qs) all.outcomes
            ∙ sym (cond-true (concerns p c) _ _ o);
        left = ap (λ (j : Reference). reference_left t j b.store (calls_part p cs)) to ∙ all.left;
      }))
      (λ o.
      let to = other_next k s r c h.0 o in
      let ih = beside_from k' m.stands (subst (Standing t) (sym to) r) cs later in
      let all : Beside t p k' (part_by p k) a.store (row_of (part_by p k)) cs (calls_part p cs) =
      subst (λ (zs : List ℕ). Beside t p k' (part_by p k) zs (row_of (part_by p k)) cs (calls_part p cs)) (sym m.store)
      (subst (λ (j : Reference). Beside t p k' j (row_of k') (row_of j) cs (calls_part p cs)) to ih) in
      subst result (sym (cond-false (concerns p c) (c ∷ calls_part p cs) (calls_part p cs) o))
      (record {
        unhindered = all.unhindered;
        outcomes = all.outcomes ∙ sym (cond-false (concerns p c) _ _ o);
        left = all.left;
      }))

pub row_cards_apart : RowCardsApart
row_cards_apart t p xs calls h =
    let rest : List ℕ = drop store_size xs in
    let clean = empty_clean t xs in
    let b : Beside t p empty empty (empty_row t xs) (empty_row t xs) calls (calls_part p calls) =
    subst (λ (zs : List ℕ). Beside t p empty empty zs zs calls (calls_part p calls)) (sym clean)
    (beside_from t p rest empty (empty_standing t) (empty_standing t) calls (subst (λ (zs : List ℕ). Unhindered zs calls) clean h)) in
    let k : Reference = reference_now t xs calls in
    let sorted = (left_now t xs calls).stands.sorted in
    record {
      unhindered = b.unhindered;
      outcomes = b.outcomes;
      closed = ap (closed_of t) b.left ∙ sym (closed_of_part t p k sorted);
      store = held_now t xs (calls_part p calls) ∙ ap (image t) b.left ∙ image_part t p k sorted ∙ sym (ap (store_part p) (held_now t xs calls));
    }
