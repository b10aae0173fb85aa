use Rattle.std.proofs.Common.{refl}
use Rattle.visit.specs.Lines.{day_of, line_before, line_of, same_key}
use Rattle.visit.specs.Readings.{gap_of, kept, reading_before, same_reading, too_late}
use Rattle.visit.specs.Visits.{closed, expired, live, near, same_visit, visit_before}
use Rattle.model.proofs.visits.worked_day.Goals as goal

pub returns : goal.returns
unfolding gap_of same_reading reading_before too_late kept near visit_before same_visit closed expired live day_of line_of same_key line_before
returns c = record { by_row = refl; all_outcomes = refl; at_the_end = refl }
