-- How much one command changes.
use Rattle.std.specs.Prelude.{◌≡◌, ℕ, ◌≤◌, List, [], ◌∷◌, length, filter}
use Rattle.visit.specs.declared.Reading.{Reading}
use Rattle.visit.specs.declared.Terms.{Terms}
use Rattle.visit.specs.declared.Visit.{Visit}
use Rattle.visit.specs.Visits.{merged, near, single}
use Rattle.command.specs.declared.Command.{Command}
use Rattle.command.specs.declared.Command.TheVariants.{Reading as AReading, Watermark}
use Rattle.command.specs.Outcomes.{changed}
use Rattle.model.specs.Reference.{Reference, after, empty, outcome}
use Rattle.model.specs.Sessions.{closed_visits, visits}

-- The visits of a list that are near to another, and what they make with it, one after the other.
abbrev pub near_ones : Terms → Visit → List Visit → List Visit
near_ones t u vs = filter (near t u) vs

abbrev pub merged_with : Visit → List Visit → Visit
merged_with u [] = u
merged_with u (v ∷ vs) = merged_with (merged u v) vs

-- The visits that a reading meets, and the visit that they become.
abbrev pub met : Terms → Reference → Reading → List Visit
met t k e = near_ones t (single e) (visits t k.readings)

abbrev pub became : Terms → Reference → Reading → Visit
became t k e = merged_with (single e) (met t k e)

-- A reading that is taken in retracts the visits that it meets, if they were closed, in order, and adds what they become, if that is closed.
abbrev pub OnlyWhatIsMet : Type 0
OnlyWhatIsMet =
    (t : Terms) (cs : List Command) (e : Reading) (gone new : List Visit)
    → outcome t (after t empty cs) (AReading e) ≡ changed gone new
    → (gone ≡ closed_visits t (after t empty cs).watermark (met t (after t empty cs) e))
    × (new ≡ closed_visits t (after t empty cs).watermark (became t (after t empty cs) e ∷ []))

-- So it retracts two visits at most and adds one at most.
abbrev pub FewChanges : Type 0
FewChanges =
    (t : Terms) (cs : List Command) (e : Reading) (gone new : List Visit)
    → outcome t (after t empty cs) (AReading e) ≡ changed gone new → (length gone ≤ 2) × (length new ≤ 1)

-- A reading that is not behind the watermark changes no closed visit and adds none.
abbrev pub OnTime : Type 0
OnTime =
    (t : Terms) (cs : List Command) (e : Reading) (gone new : List Visit)
    → (after t empty cs).watermark ≤ e.time → outcome t (after t empty cs) (AReading e) ≡ changed gone new → (gone ≡ []) × (new ≡ [])

-- A watermark retracts nothing.
abbrev pub WatermarkAdds : Type 0
WatermarkAdds = (t : Terms) (k : Reference) (m : ℕ) (gone new : List Visit) → outcome t k (Watermark m) ≡ changed gone new → gone ≡ []
