-- The header as a row: gap, lateness, day length, watermark, then how many live visits, kept readings and lines there are.
use Rattle.std.specs.Prelude.{◌≡◌, ℕ, ◌+◌, ◌≤◌, List, [], ◌∷◌, length, Some, None, Option, slice_index, refl}
use Rattle.std.proofs.Common.{arith}
use Rattle.visit.specs.declared.Terms.{Terms}
use Rattle.rows.specs.Fields.{fields_taken}
use Rattle.rows.specs.Rows.{Laws}
use Rattle.store.specs.declared.header.Header.{Header}
use Rattle.store.specs.Layout.{header_width, lines_room, readings_room, visits_room}

abbrev pub terms_made : List ℕ → Terms
terms_made xs = record { gap = slice_index xs 0; lateness = slice_index xs 1; day = slice_index xs 2 }

abbrev pub header_made : List ℕ → Header
header_made xs =
    record { clock = record { terms = terms_made xs; watermark = slice_index xs 3 }; visits = slice_index xs 4; readings = slice_index xs 5; lines = slice_index xs 6 }

abbrev pub header_cells : Header → List ℕ
header_cells h =
    h.clock.terms.gap ∷ h.clock.terms.lateness ∷ h.clock.terms.day ∷ h.clock.watermark ∷ h.visits ∷ h.readings ∷ h.lines ∷ []

-- A count may be as large as its room. Terms and watermark have bounds of another kind.
abbrev pub header_limits : List (Option ℕ)
header_limits =
    None ∷ None ∷ None ∷ None ∷ Some (visits_room + 1) ∷ Some (readings_room + 1) ∷ Some (lines_room + 1) ∷ []

pub header_limited : length header_limits ≡ header_width
header_limited = refl

pub header_laws : Laws header_width header_made header_cells
header_laws = record {
  some = omega arith;
  long = λ r. refl;
  reads = λ r rest. refl;
  back = λ xs h. fields_taken 0 header_width xs h;
}

-- The counts are within their rooms.
pub record Counted (h : Header) : Type 0 where
  pub visits : h.visits ≤ visits_room
  pub readings : h.readings ≤ readings_room
  pub lines : h.lines ≤ lines_room
