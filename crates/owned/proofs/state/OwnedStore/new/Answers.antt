use Rattle.std.proofs.Common.{◌≡◌, ℕ, List, length, sym, refl, ap, ◌∙◌, subst, arith}
use Rattle.std.proofs.lemmas.List.{with_items_is}
use Rattle.store.specs.Contents.{empty_row}
use Rattle.owned.specs.Written.{Written}
use Rattle.owned.proofs.Writing.{first_written}
use Rattle.owned.proofs.state.OwnedStore.new.Goals as goal

pub invariant_of-result : goal.invariant_of-result
invariant_of-result c =
    let v = c.in_ok-row.row in
    let long : length c.clear.new.store ≡ v.len = omega (arith, c.as_mut_slice.ensures.len) in
    let cleared = with_items_is v c.clear.new.store long ∙ c.clear.ensures in
    record { written = ∣ subst (λ (xs : List ℕ). Written xs 0 0) (sym cleared) (first_written c.args.terms c.as_mut_slice.result.now) ∣₁ }

pub returns : goal.returns
returns c =
    let v = c.in_ok-row.row in
    let long : length c.clear.new.store ≡ v.len = omega (arith, c.as_mut_slice.ensures.len) in
    record {
      row = with_items_is v c.clear.new.store long ∙ c.clear.ensures ∙ ap (empty_row c.args.terms) (c.as_mut_slice.ensures.value ∙ c.in_ok-row.ensures.items_if_clones_equal (λ y e. e));
      out = omega (arith, c.in_ok-out.out.ok.0, c.in_ok-out.ensures.len);
      capacity = refl;
    }
