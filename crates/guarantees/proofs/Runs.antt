-- Runs that nothing hinders.
use Rattle.std.proofs.Common.{◌≡◌, ℕ, Bool, cond, List, [], ◌∷◌, map, length, None, Option, Result, refl, ap, ◌∙◌, subst}
use Rattle.std.specs.List.{AllByRecursion}
use Rattle.std.proofs.lemmas.Bool.{le-ltb}
use Rattle.visit.specs.declared.Terms.{Terms}
use Rattle.command.specs.declared.Refusal.{Refusal}
use Rattle.command.specs.Numbers.{Reply}
use Rattle.command.specs.Bounds.{command_fault, terms_fault}
use Rattle.command.specs.Outcomes.{Outcome, reply_of}
use Rattle.model.specs.Reference.{Reference, bounded_plan, empty, or_fault, outcome_by, plan, state_by}
use Rattle.store.specs.Applied.{Applied}
use Rattle.store.specs.Contents.{empty_row}
use Rattle.command.specs.Cells.{command_in, command_width, row_fault}
use Rattle.store.specs.Faults.{out_fault}
use Rattle.changes.specs.Room.{out_width}
use Rattle.guarantees.specs.Calls.{Call, answer, answers}
use Rattle.guarantees.specs.Faithful.{Faithful, next, out_after, planned}
use Rattle.guarantees.specs.Unhindered.{AsReference, Unhindered, UnhinderedRun, Whole}
use Rattle.guarantees.proofs.Along.{store_faithful}

-- A whole call comes to the reference's plan with bounds.
whole_row : (c : Call) → Whole c → row_fault c.command ≡ command_fault (command_in c.command)
whole_row c w = let o = le-ltb (length c.command) command_width w.numbers in let q = w.kind in simp (o, q)

whole_out : (c : Call) → Whole c → out_fault (length c.out) ≡ None
whole_out c w = let o = le-ltb (length c.out) out_width w.room in simp o

pub planned_bounded : (t : Terms) (k : Reference) (c : Call) → Whole c → planned t k c ≡ bounded_plan t k (command_in c.command)
planned_bounded t k c w =
    let p : Result Reference Refusal = plan t k (command_in c.command) in
    ap (λ (f : Option Refusal). or_fault (terms_fault t) (or_fault f (or_fault (out_fault (length c.out)) p))) (whole_row c w)
    ∙ ap (λ (f : Option Refusal). or_fault (terms_fault t) (or_fault (command_fault (command_in c.command)) (or_fault f p))) (whole_out c w)

as_reference : (t : Terms) (k : Reference) (xs : List ℕ) (calls : List Call) → Faithful t k xs calls → AllByRecursion Whole calls → Unhindered xs calls → AsReference t k xs calls
as_reference t k xs [] f w h = record { replies = refl; outs = refl; ledger = f }
as_reference t k xs (c ∷ cs) f w h =
    let a : Applied = answer xs c in
    let p = planned_bounded t k c w.0 in
    let o : outcome_by t k (planned t k c) ≡ outcome_by t k (bounded_plan t k (command_in c.command)) = ap (outcome_by t k) p in
    let n : next t k c a.reply ≡ state_by k (bounded_plan t k (command_in c.command)) =
    ap (λ (b : Bool). cond b k (state_by k (planned t k c))) h.0 ∙ ap (state_by k) p in
    let k' : Reference = state_by k (bounded_plan t k (command_in c.command)) in
    let r = as_reference t k' a.store cs (subst (λ (j : Reference). Faithful t j a.store cs) n f.2) w.1 h.1 in
    let reply : a.reply ≡ reply_of (outcome_by t k (bounded_plan t k (command_in c.command))) = f.1.reply h.0 ∙ ap reply_of o in
    let out : a.out ≡ out_after (outcome_by t k (bounded_plan t k (command_in c.command))) c.out = f.1.out h.0 ∙ ap (λ (q : Outcome). out_after q c.out) o in
    record {
      replies =
          ap (λ (q : Reply). q ∷ map (λ b. b.reply) (answers a.store cs)) reply
          ∙ ap (λ (qs : List Reply). reply_of (outcome_by t k (bounded_plan t k (command_in c.command))) ∷ qs) r.replies;
      outs =
          ap (λ (q : List ℕ). q ∷ map (λ b. b.out) (answers a.store cs)) out
          ∙ ap (λ (qs : List (List ℕ)). out_after (outcome_by t k (bounded_plan t k (command_in c.command))) c.out ∷ qs) r.outs;
      ledger = r.ledger;
    }

pub unhindered_run : UnhinderedRun
unhindered_run t xs calls w h = as_reference t empty (empty_row t xs) calls (store_faithful t xs calls) w h
