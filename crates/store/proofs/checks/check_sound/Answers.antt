use Rattle.std.proofs.Common.{◌≡◌, ℕ, ◌≤◌, List, ◌∷◌, length, None, Ok, Err, Option, Result, sym, ap, ◌∙◌, arith}
use Rattle.std.specs.Option.{option_map}
use Rattle.std.proofs.lemmas.Result.{err_from_is_err_and}
use Rattle.command.specs.declared.Refusal.{Refusal}
use Rattle.command.specs.declared.Refusal.TheVariants.{BadStore}
use Rattle.model.specs.Reference.{or_fault}
use Rattle.rows.specs.Limits.{first_over}
use Rattle.store.specs.declared.view.View.{View}
use Rattle.store.specs.Contents.{header_in}
use Rattle.store.specs.Faults.{counts_fault, first_fault, store_faults, table_faults}
use Rattle.store.specs.Header.{header_limits}
use Rattle.store.specs.Layout.{store_size}
use Rattle.store.specs.Views.{Shows, faults_seen}
use Rattle.store.proofs.Bounds.{long_enough, over_header}
use Rattle.store.proofs.Places.{halt, past, unless_is}
use Rattle.store.proofs.Views.{faults_shown}
use Rattle.store.proofs.checks.check_sound.Goals as goal

-- Of a long row whose counts are within their rooms the tables are asked.
tables : (xs : List ℕ) (v : View) → Shows v xs → store_size ≤ length xs → counts_fault (header_in xs) ≡ None
    → first_fault (store_faults xs) (Ok (tt {0})) ≡ first_fault (faults_seen v) (Ok (tt {0}))
tables xs v shows h none =
    ap (λ o. or_fault o (first_fault (counts_fault (header_in xs) ∷ table_faults (header_in xs) xs) (Ok tt))) (long_enough xs h)
    ∙ ap (λ o. or_fault o (first_fault (table_faults (header_in xs) xs) (Ok tt))) none ∙ ap (λ fs. first_fault fs (Ok tt)) (sym (faults_shown shows))

within : (xs : List ℕ) (ls : List (Option ℕ)) → ls ≡ header_limits → store_size ≤ length xs → None ≡ first_over 0 ls xs → counts_fault (header_in xs) ≡ None
within xs ls limits h e = sym (ap (option_map BadStore) (e ∙ over_header xs ls limits (omega arith)))

pub returns-in-Some : goal.returns-in-Some
returns-in-Some c =
    let xs = c.args.store.now in
    let rest : Result (Unit {0}) Refusal = first_fault (table_faults (header_in xs) xs) (Ok tt) in
    let over = c.in-Some.ensures ∙ over_header xs c.limits.result.now c.limits.ensures (omega arith) in
    sym (ap (λ o. or_fault o (or_fault (counts_fault (header_in xs)) rest)) (long_enough xs (omega arith)) ∙ ap (λ o. or_fault (option_map BadStore o) rest) (sym over))

pub returns-in_err-check_table : goal.returns-in_err-check_table
returns-in_err-check_table c =
    let p = err_from_is_err_and c.from_residual.result c.from_residual.ensures.1 in
    let none = within c.args.store.now c.limits.result.now c.limits.ensures (omega arith) c.in_default.ensures in
    p.1 ∙ ap Err p.2 ∙ sym (tables c.args.store.now c.new-view.result c.new-view.ensures (omega arith) none ∙ halt _ (tt {0}) c.in_err-check_table.field-0.0 _ c.in_err-check_table.ensures)

pub returns-in_err-check_table-2 : goal.returns-in_err-check_table-2
returns-in_err-check_table-2 c =
    let p = err_from_is_err_and c.from_residual-in_err-check_table-2.result c.from_residual-in_err-check_table-2.ensures.1 in
    let none = within c.args.store.now c.limits.result.now c.limits.ensures (omega arith) c.in_default.ensures in
    p.1 ∙ ap Err p.2
    ∙ sym (tables c.args.store.now c.new-view.result c.new-view.ensures (omega arith) none
    ∙ past _ (tt {0}) tt _ c.in_ok-check_table.ensures ∙ halt _ (tt {0}) c.in_err-check_table-2.field-0.0 _ c.in_err-check_table-2.ensures)

pub returns : goal.returns
returns c =
    let none = within c.args.store.now c.limits.result.now c.limits.ensures (omega arith) c.in_default.ensures in
    sym (tables c.args.store.now c.new-view.result c.new-view.ensures (omega arith) none
    ∙ past _ (tt {0}) tt _ c.in_ok-check_table.ensures ∙ past _ (tt {0}) tt _ c.in_ok-check_table-2.ensures
    ∙ sym (c.check_table-3.ensures ∙ unless_is _ (tt {0})))
