-- Of the visits that a table holds.
use Rattle.std.specs.Prelude.{ℕ, not, List, filter}
use Rattle.visit.specs.declared.Terms.{Terms}
use Rattle.visit.specs.declared.Visit.{Visit}
use Rattle.visit.specs.Visits.{closed}

-- The visits that are not closed at the watermark m.
abbrev pub open_only : Terms → ℕ → List Visit → List Visit
open_only t m vs = filter (λ v. not (closed t m v)) vs
