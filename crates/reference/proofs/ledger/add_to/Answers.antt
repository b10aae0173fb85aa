use Rattle.std.proofs.Common.{rules, arith, vec_items, ap, set, ◌<◌, ◌≡◌, ◌≤◌, ◌∙◌, sym, length}
use Rattle.std.specs.List.{insert}
use Rattle.std.proofs.lemmas.Grind.{common_steps}
use Rattle.std.proofs.lemmas.Iterator.{YieldsList-from_slice}
use Rattle.std.proofs.lemmas.Iterator.Consumers.{YieldsList-at, YieldsList-from_copied}
use Rattle.std.proofs.lemmas.List.{set-get_or}
use Rattle.reference.proofs.Entries.{add_at_key, add_between, add_last}
use Rattle.reference.proofs.ledger.add_to.Goals as goal
use Rattle.reference.proofs.ledger.add_to.Goals.{in_default-via-in-Some+else-same_key, in_default-via-in-None-1}

pub returns-in-Some : goal.returns-in-Some
returns-in-Some c =
    let xs = vec_items c.args.lines.now in
    let at = c.place-at.result in
    let items = YieldsList-from_copied (YieldsList-at c.copied.ensures.source (YieldsList-from_slice xs cc)) in
    let placed = c.place-at.ensures.before xs items.runs in
    let within : at < length xs = search rules in
    ap (set xs at) c.plus.ensures ∙ add_at_key c.args.terms c.args.line xs at c.in-Some.found.now placed within c.in-Some.ensures.value (sym c.if-same_key.ensures)

pub returns-in_ok-insert-in_default : goal.returns-in_ok-insert-in_default
returns-in_ok-insert-in_default c =
    let xs = vec_items c.args.lines.now in
    let at = c.place-at.result in
    let items = YieldsList-from_copied (YieldsList-at c.copied.ensures.source (YieldsList-from_slice xs cc)) in
    let placed = c.place-at.ensures.before xs items.runs in
    elim c.in_default.branch [
      | in_default-via-in-Some+else-same_key w ↦
          let same : vec_items c.in_default.lines ≡ xs = grind (arith, common_steps, set-get_or) in
          let within : at < length xs = search rules in
          c.in_ok-insert-in_default.ensures.items ∙ ap (λ ys. insert ys at c.args.line) same ∙ add_between c.args.terms c.args.line xs at w.in-Some.found.now placed within w.in-Some.ensures.value (sym w.if-same_key.ensures)
      | in_default-via-in-None-1 w ↦
          let same : vec_items c.in_default.lines ≡ xs = grind arith in
          let past : length xs ≤ at = grind arith in
          c.in_ok-insert-in_default.ensures.items ∙ ap (λ ys. insert ys at c.args.line) same ∙ add_last c.args.terms c.args.line xs at placed past
    ]
