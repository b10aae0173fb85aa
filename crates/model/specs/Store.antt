-- The store: it keeps only the visits that may still change, the readings that could come again, and the ledger.
use Rattle.std.specs.Prelude.{ℕ, cond, List, [], ◌∷◌, Ok, Err, filter, Result, nat_lt}
use Rattle.visit.specs.declared.Line.{Line}
use Rattle.visit.specs.declared.Reading.{Reading}
use Rattle.visit.specs.declared.Terms.{Terms}
use Rattle.visit.specs.declared.Visit.{Visit}
use Rattle.visit.specs.Readings.{kept, too_late}
use Rattle.visit.specs.Visits.{live, merged, near, single, visit_before}
use Rattle.command.specs.declared.Command.{Command}
use Rattle.command.specs.declared.Command.TheVariants.{Reading as AReading, Watermark}
use Rattle.command.specs.declared.Refusal.{Refusal}
use Rattle.command.specs.declared.Refusal.TheVariants.{TooLate, Duplicate, Backwards}
use Rattle.command.specs.Outcomes.{Outcome, refused}
use Rattle.model.specs.Ledger.{add_visits, take_visits}
use Rattle.model.specs.Sessions.{changes, closed_visits, contains, difference, insert_reading}

-- A visit put among others, from the front: near ones are taken in, ones before it are passed, it stops at the first that is neither.
abbrev pub merge_in : Terms → Visit → List Visit → List Visit
merge_in t v [] = v ∷ []
merge_in t v (w ∷ ws) = cond (near t v w) (merge_in t (merged v w) ws) (cond (visit_before t w v) (w ∷ merge_in t v ws) (v ∷ w ∷ ws))

-- What has not expired at the watermark m.
abbrev pub live_only : Terms → ℕ → List Visit → List Visit
live_only t m vs = filter (live t m) vs

abbrev pub kept_only : Terms → ℕ → List Reading → List Reading
kept_only t m es = filter (kept t m) es

pub record Store : Type 0 where
  pub live : List Visit
  pub seen : List Reading
  pub watermark : ℕ
  pub ledger : List Line

abbrev pub empty_store : Store
empty_store = record { live = []; seen = []; watermark = 0; ledger = [] }

-- What a command comes to before anything expires: live visits, kept readings, watermark; or a refusal.
pub record Draft : Type 0 where
  pub live : List Visit
  pub seen : List Reading
  pub watermark : ℕ

abbrev pub draft : Terms → Store → Command → Result Draft Refusal
draft t s (AReading e) =
    cond (too_late t s.watermark e) (Err (TooLate e.time))
    (cond (contains t e s.seen) (Err (Duplicate e.time))
    (Ok (record { live = merge_in t (single e) s.live; seen = insert_reading t e s.seen; watermark = s.watermark })))
draft t s (Watermark m) = cond (nat_lt m s.watermark) (Err (Backwards m)) (Ok (record { live = s.live; seen = s.seen; watermark = m }))

-- The live visits that were closed, and those that are.
abbrev pub closed_before : Terms → Store → List Visit
closed_before t s = closed_visits t s.watermark s.live

abbrev pub closed_after : Terms → Draft → List Visit
closed_after t d = closed_visits t d.watermark d.live

-- The ledger after visits were retracted and others added.
abbrev pub posted : Terms → List Visit → List Visit → List Line → List Line
posted t gone new ls = add_visits t new (take_visits t gone ls)

-- One end for every kind of command: the ledger by what has changed, then expiry.
abbrev pub finish : Terms → Store → Draft → Store
finish t s d =
    record {
      live = live_only t d.watermark d.live;
      seen = kept_only t d.watermark d.seen;
      watermark = d.watermark;
      ledger = posted t (difference t (closed_before t s) (closed_after t d)) (difference t (closed_after t d) (closed_before t s)) s.ledger;
    }

abbrev pub store_outcome_by : Terms → Store → Result Draft Refusal → Outcome
store_outcome_by t s (Ok d) = changes t (closed_before t s) (closed_after t d)
store_outcome_by t s (Err r) = refused r

abbrev pub store_by : Terms → Store → Result Draft Refusal → Store
store_by t s (Ok d) = finish t s d
store_by t s (Err r) = s

abbrev pub store_outcome : Terms → Store → Command → Outcome
store_outcome t s c = store_outcome_by t s (draft t s c)

abbrev pub store_step : Terms → Store → Command → Store
store_step t s c = store_by t s (draft t s c)

-- A whole list of commands.
abbrev pub store_outcomes : Terms → Store → List Command → List Outcome
store_outcomes t s [] = []
store_outcomes t s (c ∷ cs) = store_outcome t s c ∷ store_outcomes t (store_step t s c) cs

abbrev pub store_after : Terms → Store → List Command → Store
store_after t s [] = s
store_after t s (c ∷ cs) = store_after t (store_step t s c) cs
