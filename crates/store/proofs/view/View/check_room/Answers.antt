use Rattle.std.proofs.Common.{◌≤◌, not, length, arith}
use Rattle.std.proofs.lemmas.Bool.Decides.{nat_tests}
use Rattle.visit.specs.Visits.{closed}
use Rattle.model.proofs.Common.{kept_shorter}
use Rattle.live.specs.Tables.{open_only}
use Rattle.rows.specs.Tables.{rows_seen}
use Rattle.rows.specs.Visits.{visit_made, visit_width}
use Rattle.rows.proofs.Splits.{length_rows}
use Rattle.store.specs.declared.view.View.{View}
use Rattle.store.proofs.view.View.check_room.Goals as goal

-- No more visits are open than there are.
open_few : (v : View) → length (open_only v.clock.terms v.clock.watermark (rows_seen v.visits)) ≤ v.visits.len
open_few v = omega (arith, kept_shorter (λ u. not (closed v.clock.terms v.clock.watermark u)) (rows_seen v.visits), length_rows visit_width visit_made v.visits.len v.visits.cells.now)

pub overflow_add-self-then-self-gt-LINES_ROOM : goal.overflow_add-self-then-self-gt-LINES_ROOM
overflow_add-self-then-self-gt-LINES_ROOM c = let v = c.args.self.now in omega (arith, c.open_count.ensures, open_few v, v.few_lines, v.few_visits)

pub returns-else-self-gt-LINES_ROOM : goal.returns-else-self-gt-LINES_ROOM
returns-else-self-gt-LINES_ROOM c = let v = c.args.self.now in let few = open_few v in grind (arith, nat_tests, few, c.in-Watermark.is)
