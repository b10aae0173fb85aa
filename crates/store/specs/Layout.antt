-- Where things stand in the store's row: a header, then room for live visits, for kept readings and for lines.
use Rattle.std.specs.Prelude.{ℕ, ◌+◌, ◌*◌}
use Rattle.rows.specs.Lines.{line_width}
use Rattle.rows.specs.Readings.{reading_width}
use Rattle.rows.specs.Visits.{visit_width}
use Rattle.changes.specs.Room.{live_most}

-- Gap, lateness, day length, watermark, and the three counts.
abbrev pub header_width : ℕ
header_width = 7

abbrev pub visits_room : ℕ
visits_room = live_most

abbrev pub readings_room : ℕ
readings_room = 4096

abbrev pub lines_room : ℕ
lines_room = 4096

abbrev pub visits_at : ℕ
visits_at = header_width

abbrev pub readings_at : ℕ
readings_at = visits_at + visits_room * visit_width

abbrev pub lines_at : ℕ
lines_at = readings_at + readings_room * reading_width

abbrev pub store_size : ℕ
store_size = lines_at + lines_room * line_width
