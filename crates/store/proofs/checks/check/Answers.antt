use Rattle.std.proofs.Common.{Err, Ok, sym, ap, ◌∙◌}
use Rattle.std.proofs.lemmas.Result.{err_from_is_err_and}
use Rattle.command.specs.Cells.{command_in, row_fault}
use Rattle.store.specs.declared.header.Header.{Header}
use Rattle.store.proofs.Bounds.{sized_by}
use Rattle.store.proofs.Places.{halt, past}
use Rattle.store.proofs.Settling.{readings_in_order}
use Rattle.store.proofs.Stops.{at_clock, from_clock, from_command}
use Rattle.store.proofs.checks.check.Goals as goal

pub new-view-requires : goal.new-view-requires
new-view-requires c = sized_by c.args.store.now c.requires.sound

pub check_rules-requires : goal.check_rules-requires
check_rules-requires c = readings_in_order c.args.search c.args.store.now c.new-view.result c.new-view.ensures c.requires.order

pub returns-in_err-check_clock : goal.returns-in_err-check_clock
returns-in_err-check_clock c =
    let p = err_from_is_err_and c.from_residual.result c.from_residual.ensures.1 in
    p.1 ∙ ap Err p.2
    ∙ sym (at_clock c.args.capacity c.args.store.now c.args.row.now c.args.out c.new-view.result c.requires.sound c.new-view.ensures c.in_err-check_clock.field-0.0 c.in_err-check_clock.ensures)

pub returns-in_err-command : goal.returns-in_err-command
returns-in_err-command c =
    let p = err_from_is_err_and c.from_residual-in_err-command.result c.from_residual-in_err-command.ensures.1 in
    let cs = c.args.row.now in
    p.1 ∙ ap Err p.2
    ∙ sym (from_clock c.args.capacity c.args.store.now cs c.args.out c.new-view.result c.requires.sound c.new-view.ensures c.in_ok-check_clock.ensures
    ∙ halt (row_fault cs) (command_in cs) c.in_err-command.field-0.0 _ c.in_err-command.ensures)

pub returns-in_err-check_out : goal.returns-in_err-check_out
returns-in_err-check_out c =
    let p = err_from_is_err_and c.from_residual-in_err-check_out.result c.from_residual-in_err-check_out.ensures.1 in
    let from = from_command c.args.capacity c.args.store.now c.args.row.now c.args.out c.new-view.result c.requires.sound c.new-view.ensures c.in_ok-check_clock.ensures c.in_ok-command.command c.in_ok-command.ensures in
    p.1 ∙ ap Err p.2 ∙ sym (from ∙ halt _ (tt {0}) c.in_err-check_out.field-0.0 _ c.in_err-check_out.ensures)

pub returns-in_err-check_room : goal.returns-in_err-check_room
returns-in_err-check_room c =
    let p = err_from_is_err_and c.from_residual-in_err-check_room.result c.from_residual-in_err-check_room.ensures.1 in
    let from = from_command c.args.capacity c.args.store.now c.args.row.now c.args.out c.new-view.result c.requires.sound c.new-view.ensures c.in_ok-check_clock.ensures c.in_ok-command.command c.in_ok-command.ensures in
    p.1 ∙ ap Err p.2 ∙ sym (from ∙ past _ (tt {0}) tt _ c.in_ok-check_out.ensures ∙ halt _ (tt {0}) c.in_err-check_room.field-0.0 _ c.in_err-check_room.ensures)

pub returns-in_err-check_rules : goal.returns-in_err-check_rules
returns-in_err-check_rules c =
    let p = err_from_is_err_and c.from_residual-in_err-check_rules.result c.from_residual-in_err-check_rules.ensures.1 in
    let from = from_command c.args.capacity c.args.store.now c.args.row.now c.args.out c.new-view.result c.requires.sound c.new-view.ensures c.in_ok-check_clock.ensures c.in_ok-command.command c.in_ok-command.ensures in
    p.1 ∙ ap Err p.2
    ∙ sym (from ∙ past _ (tt {0}) tt _ c.in_ok-check_out.ensures ∙ past _ (tt {0}) tt _ c.in_ok-check_room.ensures ∙ halt _ (tt {0}) c.in_err-check_rules.field-0.0 _ c.in_err-check_rules.ensures)

pub returns : goal.returns
returns c =
    let from = from_command c.args.capacity c.args.store.now c.args.row.now c.args.out c.new-view.result c.requires.sound c.new-view.ensures c.in_ok-check_clock.ensures c.in_ok-command.command c.in_ok-command.ensures in
    ap (λ (h : Header). Ok (record { header = h; command = c.in_ok-command.command })) c.header.ensures
    ∙ sym (from ∙ past _ (tt {0}) tt _ c.in_ok-check_out.ensures ∙ past _ (tt {0}) tt _ c.in_ok-check_room.ensures ∙ past _ (tt {0}) tt _ c.in_ok-check_rules.ensures)
