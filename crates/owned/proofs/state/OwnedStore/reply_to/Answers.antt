use Rattle.std.proofs.Common.{◌≡◌, ℕ, List, length, vec_items, sym, refl, ap, ◌∙◌, subst, arith}
use mathlib.Core.Bool.{Bool-set}
use mathlib.Core.Logic.{∥∥₁_elim}
use Rattle.std.proofs.lemmas.List.{with_items_is}
use Rattle.command.specs.declared.Command.{Command}
use Rattle.command.specs.Cells.{command_cells}
use Rattle.store.specs.declared.capacity.Capacity.{Capacity}
use Rattle.store.specs.Applied.{Applied, applied}
use Rattle.store.specs.Checks.{sound_row}
use Rattle.store.specs.Contents.{store_in, terms_in}
use Rattle.store.specs.Order.{Orderly}
use Rattle.owned.proofs.Writing.{written_orderly, written_sound, written_then}
use Rattle.owned.proofs.state.OwnedStore.reply_to.Goals as goal

-- What is done to the slices is done to what they lend.
same : (cap : Capacity) (cmd : Command) (xs ys cs os zs : List ℕ) → xs ≡ ys → cs ≡ command_cells cmd → os ≡ zs → applied cap xs cs os ≡ applied cap ys (command_cells cmd) zs
same cap cmd xs ys cs os zs row cells out = ap (λ l. applied cap l cs os) row ∙ ap (λ l. applied cap ys l os) cells ∙ ap (applied cap ys (command_cells cmd)) out

pub apply_sound-requires-clause-sound : goal.apply_sound-requires-clause-sound
apply_sound-requires-clause-sound c =
    let s = c.args.self.now in
    ∥∥₁_elim s.written (Bool-set _ _)
    (λ w. ap sound_row c.as_mut_slice-row.ensures.value ∙ written_sound (vec_items s.row) s.amount s.taken (sym c.below_limits-sound.ensures ∙ c.if-sound.true) w)

pub apply_sound-requires-clause-order : goal.apply_sound-requires-clause-order
apply_sound-requires-clause-order c =
    let s = c.args.self.now in
    subst (λ (xs : List ℕ). Orderly (terms_in xs) (store_in xs)) (sym c.as_mut_slice-row.ensures.value) (written_orderly (vec_items s.row) s.amount s.taken s.written)

pub invariant_of-self : goal.invariant_of-self
invariant_of-self c =
    let s = c.args.self.now in
    let cmd = c.args.command in
    let is = same s.capacity cmd c.as_mut_slice-row.result.now (vec_items s.row) c.into-cells.result c.as_mut_slice-out.result.now (vec_items s.out) c.as_mut_slice-row.ensures.value c.into-cells.ensures c.as_mut_slice-out.ensures.value in
    let long : length c.apply_sound.new.store ≡ s.row.len = omega (arith, c.as_mut_slice-row.ensures.len) in
    record {
      written = written_then s.capacity cmd (vec_items s.row) _ (vec_items s.out) s.amount s.taken c.amount_in.result c.saturating_add-self.result c.saturating_add-self-2.result s.written
          (with_items_is s.row c.apply_sound.new.store long ∙ c.apply_sound.ensures.store ∙ ap (λ (a : Applied). a.store) is)
          c.amount_in.ensures (omega (arith, c.saturating_add-self.ensures)) (omega (arith, c.saturating_add-self-2.ensures));
    }

pub invariant_of-self-else-sound : goal.invariant_of-self-else-sound
invariant_of-self-else-sound c =
    let s = c.args.self.now in
    let cmd = c.args.command in
    let is = same s.capacity cmd c.as_mut_slice-row.result.now (vec_items s.row) c.into-cells.result c.as_mut_slice-out.result.now (vec_items s.out) c.as_mut_slice-row.ensures.value c.into-cells.ensures c.as_mut_slice-out.ensures.value in
    let long : length c.apply_within.new.store ≡ s.row.len = omega (arith, c.as_mut_slice-row.ensures.len) in
    record {
      written = written_then s.capacity cmd (vec_items s.row) _ (vec_items s.out) s.amount s.taken c.amount_in.result c.saturating_add-self.result c.saturating_add-self-2.result s.written
          (with_items_is s.row c.apply_within.new.store long ∙ c.apply_within.ensures.store ∙ ap (λ (a : Applied). a.store) is)
          c.amount_in.ensures (omega (arith, c.saturating_add-self.ensures)) (omega (arith, c.saturating_add-self-2.ensures));
    }

pub returns-then-sound : goal.returns-then-sound
returns-then-sound c =
    let s = c.args.self.now in
    let cmd = c.args.command in
    let is = same s.capacity cmd c.as_mut_slice-row.result.now (vec_items s.row) c.into-cells.result c.as_mut_slice-out.result.now (vec_items s.out) c.as_mut_slice-row.ensures.value c.into-cells.ensures c.as_mut_slice-out.ensures.value in
    let long : length c.apply_sound.new.store ≡ s.row.len = omega (arith, c.as_mut_slice-row.ensures.len) in
    let wide : length c.apply_sound.new.out ≡ s.out.len = omega (arith, c.as_mut_slice-out.ensures.len) in
    let out = with_items_is s.out c.apply_sound.new.out wide in
    record {
      reply = c.apply_sound.ensures.reply ∙ ap (λ (a : Applied). a.reply) is;
      row = with_items_is s.row c.apply_sound.new.store long ∙ c.apply_sound.ensures.store ∙ ap (λ (a : Applied). a.store) is;
      out = out ∙ c.apply_sound.ensures.out ∙ ap (λ (a : Applied). a.out) is;
      long = ap length out ∙ omega (arith, ap length c.as_mut_slice-out.ensures.value);
      capacity = refl;
    }

pub returns-else-sound : goal.returns-else-sound
returns-else-sound c =
    let s = c.args.self.now in
    let cmd = c.args.command in
    let is = same s.capacity cmd c.as_mut_slice-row.result.now (vec_items s.row) c.into-cells.result c.as_mut_slice-out.result.now (vec_items s.out) c.as_mut_slice-row.ensures.value c.into-cells.ensures c.as_mut_slice-out.ensures.value in
    let long : length c.apply_within.new.store ≡ s.row.len = omega (arith, c.as_mut_slice-row.ensures.len) in
    let wide : length c.apply_within.new.out ≡ s.out.len = omega (arith, c.as_mut_slice-out.ensures.len) in
    let out = with_items_is s.out c.apply_within.new.out wide in
    record {
      reply = c.apply_within.ensures.reply ∙ ap (λ (a : Applied). a.reply) is;
      row = with_items_is s.row c.apply_within.new.store long ∙ c.apply_within.ensures.store ∙ ap (λ (a : Applied). a.store) is;
      out = out ∙ c.apply_within.ensures.out ∙ ap (λ (a : Applied). a.out) is;
      long = ap length out ∙ omega (arith, ap length c.as_mut_slice-out.ensures.value);
      capacity = refl;
    }
