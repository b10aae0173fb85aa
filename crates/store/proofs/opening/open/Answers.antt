use Rattle.std.proofs.Common.{◌≡◌, Ok, Err, sym, ap, ◌∙◌}
use Rattle.std.proofs.lemmas.Result.{err_from_is_err_and}
use Rattle.command.specs.Bounds.{terms_fault}
use Rattle.model.specs.Reference.{or_fault}
use Rattle.store.specs.Applied.{open_reply, open_row, opening}
use Rattle.store.proofs.Bounds.{long_enough}
use Rattle.store.proofs.Places.{halt, past}
use Rattle.store.proofs.opening.open.Goals as goal

pub returns-in_err-check_terms : goal.returns-in_err-check_terms
returns-in_err-check_terms c =
    let xs = c.args.store.now in
    let t = c.args.terms in
    let r = c.in_err-check_terms.field-0.0 in
    let p = err_from_is_err_and c.from_residual.result c.from_residual.ensures.1 in
    let is : opening xs t ≡ Err r =
    ap (λ o. or_fault o (or_fault (terms_fault t) (Ok t))) (long_enough xs c.if-store-lt-STORE_SIZE.false) ∙ halt (terms_fault t) (tt {0}) r (Ok t) c.in_err-check_terms.ensures in
    record { reply = p.1 ∙ ap Err p.2 ∙ ap open_reply (sym is); store = ap (open_row xs) (sym is) }

pub returns : goal.returns
returns c =
    let xs = c.args.store.now in
    let t = c.args.terms in
    let is : opening xs t ≡ Ok t =
    ap (λ o. or_fault o (or_fault (terms_fault t) (Ok t))) (long_enough xs c.if-store-lt-STORE_SIZE.false) ∙ past (terms_fault t) (tt {0}) tt (Ok t) c.in_ok-check_terms.ensures in
    record { reply = ap open_reply (sym is); store = c.clear.ensures ∙ ap (open_row xs) (sym is) }
