-- What the store keeps: no more than it needs, and nothing in vain.
use Rattle.std.specs.Prelude.{◌≡◌, ℕ, ◌+◌, ◌≤◌, max, Bool, false, leb, List, length, filter, nat_le}
use Rattle.std.specs.List.{AllByRecursion}
use Rattle.visit.specs.declared.Reading.{Reading}
use Rattle.visit.specs.declared.Terms.{Terms}
use Rattle.visit.specs.declared.Visit.{Visit}
use Rattle.visit.specs.Readings.{gap_of, too_late}
use Rattle.visit.specs.Visits.{same_visit}
use Rattle.command.specs.declared.Command.{Command}
use Rattle.command.specs.declared.Command.TheVariants.{Reading as AReading}
use Rattle.command.specs.declared.Refusal.TheVariants.{Duplicate}
use Rattle.command.specs.Outcomes.{refused}
use Rattle.model.specs.Reference.{Reference, after, empty}
use Rattle.model.specs.Sessions.{contains, some, visits}
use Rattle.model.specs.Store.{Store, empty_store, store_after, store_outcome, store_step}

-- A reading is recent while it is at most gap and lateness behind the watermark m.
abbrev pub recent : Terms → ℕ → Reading → Bool
recent t m e = nat_le m (e.time + gap_of t e.card + t.lateness)

-- The store that stands for a reference holds those of its visits whose last reading the watermark is at most gap and lateness past, at most one
-- for each recent reading; and those of its readings that are not too late.
pub record Holds (t : Terms) (s : Store) (k : Reference) : Type 0 where
  pub watermark : s.watermark ≡ k.watermark
  pub live : s.live ≡ filter (λ v. leb k.watermark (v.to + gap_of t v.card + t.lateness)) (visits t k.readings)
  pub seen : s.seen ≡ filter (λ e. leb k.watermark (e.time + t.lateness)) k.readings
  pub few : length s.live ≤ length (filter (recent t k.watermark) k.readings)

abbrev pub LittleKept : Type 0
LittleKept = (t : Terms) (cs : List Command) → Holds t (store_after t empty_store cs) (after t empty cs)

-- A reading changes a visit: it is neither too late nor a duplicate, and after it the visit is not there any more.
-- Its numbers are not beyond those at hand: the visit's card, a time up to its last or the watermark, a serial up to the number of kept readings.
pub record ChangesVisit (t : Terms) (s : Store) (v : Visit) (e : Reading) : Type 0 where
  pub card : e.card ≡ v.card
  pub time : e.time ≤ max v.to s.watermark
  pub serial : e.serial ≤ length s.seen
  pub amount : e.amount ≡ 0
  pub timely : too_late t s.watermark e ≡ false
  pub unseen : contains t e s.seen ≡ false
  pub changes : some (same_visit t v) (store_step t s (AReading e)).live ≡ false

abbrev pub MayChange : Terms → Store → Visit → Type 0
MayChange t s v = (e : Reading) × ChangesVisit t s v e

-- Each kept reading, coming again, is refused as a duplicate; each live visit may still change.
pub record NeedsAll (t : Terms) (s : Store) : Type 0 where
  pub readings : AllByRecursion (λ e. store_outcome t s (AReading e) ≡ refused (Duplicate e.time)) s.seen
  pub visits : AllByRecursion (MayChange t s) s.live

abbrev pub NothingInVain : Type 0
NothingInVain = (t : Terms) (cs : List Command) → NeedsAll t (store_after t empty_store cs)
