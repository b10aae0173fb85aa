-- The store stands for the reference: at each command the same outcome, and after it the same again.
use Rattle.std.proofs.Common.{◌≡◌, ℕ, ◌≤◌, false, List, [], ◌∷◌, Some, None, Ok, Err, Option, Result, sym, refl, ap, ◌∙◌, subst, arith}
use Rattle.std.proofs.lemmas.Bool.{ltb-false}
use Rattle.visit.specs.declared.Line.{Line}
use Rattle.visit.specs.declared.Reading.{Reading}
use Rattle.visit.specs.declared.Terms.{Terms}
use Rattle.visit.specs.declared.Visit.{Visit}
use Rattle.visit.specs.Readings.{too_late}
use Rattle.visit.specs.Visits.{closed, live, same_visit, single}
use Rattle.command.specs.declared.Command.{Command}
use Rattle.command.specs.declared.Command.TheVariants.{Reading as AReading, Watermark}
use Rattle.command.specs.declared.Refusal.{Refusal}
use Rattle.command.specs.Bounds.{command_fault, terms_fault}
use Rattle.command.specs.Outcomes.{Outcome}
use Rattle.model.specs.Reference.{Reference, after, bounded_after, bounded_outcomes, bounded_plan, closed_of, empty, ledger_of, or_fault, outcome, outcome_by, outcomes, plan, state_by, step}
use Rattle.model.specs.Sessions.{changes, closed_visits, difference, insert_reading, some, visits}
use Rattle.model.specs.Store.{Draft, Store, posted, closed_after, closed_before, draft, empty_store, finish, kept_only, live_only, merge_in, store_after, store_by, store_outcome, store_outcome_by, store_outcomes, store_step}
use Rattle.model.specs.Unseen.{BoundedUnseen, ForgettingUnseen, bounded_draft, bounded_store_after, bounded_store_outcomes}
use Rattle.model.proofs.Merge.{insert_merges}
use Rattle.model.proofs.Order.{SortedReadings, apart_kept, insert_sorted, step_sorted, visits_apart}
use Rattle.model.proofs.Expiry.{contains_kept, dead_closed, dead_merge, difference_live, insert_kept, kept_only_twice, live_merge, live_twice, timely_live, timely_reaches}
use Rattle.model.proofs.Totals.{posted_right}

-- The store that stands for a reference, with a ledger.
abbrev pub mirror : Terms → Reference → List Line → Store
mirror t k ls =
    record { live = live_only t k.watermark (visits t k.readings); seen = kept_only t k.watermark k.readings; watermark = k.watermark; ledger = ls }

-- The draft that stands for the next reference, where m is the watermark at which the store last forgot; a refusal stays as it is.
abbrev pub drafted : Terms → ℕ → Reference → Draft
drafted t m k = record { live = live_only t m (visits t k.readings); seen = kept_only t m k.readings; watermark = k.watermark }

abbrev pub drafted_by : Terms → ℕ → Result Reference Refusal → Result Draft Refusal
drafted_by t m (Ok next) = Ok (drafted t m next)
drafted_by t m (Err r) = Err r

-- What a next reference keeps: the order, and each expired visit; the watermark does not fall.
pub record Goes_on (t : Terms) (k next : Reference) : Type 0 where
  pub sorted : SortedReadings t next.readings
  pub rises : k.watermark ≤ next.watermark
  pub same_dead : (v : Visit) → live t k.watermark v ≡ false → some (same_visit t v) (visits t k.readings) ≡ some (same_visit t v) (visits t next.readings)

abbrev pub GoesOnBy : Terms → Reference → Result Reference Refusal → Type 0
GoesOnBy t k (Ok next) = Goes_on t k next
GoesOnBy t k (Err r) = Unit {0}

-- A reading that is not too late, put in: the live visits and the kept readings of the next reference.
pub live_insert : (t : Terms) (m : ℕ) (e : Reading) (xs : List Reading) → SortedReadings t xs → too_late t m e ≡ false
    → merge_in t (single e) (live_only t m (visits t xs)) ≡ live_only t m (visits t (insert_reading t e xs))
live_insert t m e xs s h = grind (arith, timely_live t m e h, timely_reaches t m e h (visits t xs), visits_apart t xs s, insert_merges t e xs s, live_merge)

-- Each kind of command: the store drafts what the reference plans.
pub draft_reading : (t : Terms) (k : Reference) (ls : List Line) → SortedReadings t k.readings → (e : Reading)
    → draft t (mirror t k ls) (AReading e) ≡ drafted_by t k.watermark (plan t k (AReading e))
draft_reading t k ls s e = grind (arith, contains_kept, insert_kept, live_insert)

pub draft_watermark : (t : Terms) (k : Reference) (ls : List Line) (m : ℕ) → draft t (mirror t k ls) (Watermark m) ≡ drafted_by t k.watermark (plan t k (Watermark m))
draft_watermark t k ls m = grind arith

pub draft_mirror : (t : Terms) (k : Reference) (ls : List Line) → SortedReadings t k.readings → (c : Command)
    → draft t (mirror t k ls) c ≡ drafted_by t k.watermark (plan t k c)
draft_mirror t k ls s (AReading e) = draft_reading t k ls s e
draft_mirror t k ls s (Watermark m) = draft_watermark t k ls m

-- Each kind of command goes on from a reference in order.
dead_insert : (t : Terms) (m : ℕ) (e : Reading) (xs : List Reading) → SortedReadings t xs → too_late t m e ≡ false → (v : Visit) → live t m v ≡ false
    → some (same_visit t v) (visits t xs) ≡ some (same_visit t v) (visits t (insert_reading t e xs))
dead_insert t m e xs s h v d =
    sym (dead_merge t m v d (single e) (visits t xs) (timely_live t m e h) (timely_reaches t m e h (visits t xs)) (visits_apart t xs s))
    ∙ ap (λ (vs : List Visit). some (same_visit t v) vs) (sym (insert_merges t e xs s))

pub plan_goes_on : (t : Terms) (k : Reference) → SortedReadings t k.readings → (c : Command) → GoesOnBy t k (plan t k c)
plan_goes_on t k s (AReading e) = grind (arith, insert_sorted, dead_insert)
plan_goes_on t k s (Watermark m) = grind (arith, ltb-false)

-- The changes that the store works out from live visits are those of the reference.
pub gone_mirror : (t : Terms) (k next : Reference) → Goes_on t k next
    → difference t (closed_of t k) (closed_of t next)
    ≡ difference t (closed_visits t k.watermark (live_only t k.watermark (visits t k.readings))) (closed_visits t next.watermark (live_only t k.watermark (visits t next.readings)))
gone_mirror t k next g =
    difference_live t k.watermark k.watermark next.watermark (visits t k.readings) (visits t next.readings)
    (dead_closed t k.watermark next.watermark g.rises) g.same_dead

pub new_mirror : (t : Terms) (k next : Reference) → Goes_on t k next
    → difference t (closed_of t next) (closed_of t k)
    ≡ difference t (closed_visits t next.watermark (live_only t k.watermark (visits t next.readings))) (closed_visits t k.watermark (live_only t k.watermark (visits t k.readings)))
new_mirror t k next g =
    difference_live t k.watermark next.watermark k.watermark (visits t next.readings) (visits t k.readings)
    (λ v d. let c = dead_closed t k.watermark next.watermark g.rises v d in (c.1, c.0)) (λ v d. sym (g.same_dead v d))

-- The end of a command: the same changes, and the store stands for the next reference.
pub changes_mirror : (t : Terms) (k next : Reference) (ls : List Line) → Goes_on t k next
    → changes t (closed_before t (mirror t k ls)) (closed_after t (drafted t k.watermark next)) ≡ changes t (closed_of t k) (closed_of t next)
changes_mirror t k next ls g = grind (arith, gone_mirror t k next g, new_mirror t k next g)

pub ledger_right : (t : Terms) (k next : Reference) → SortedReadings t k.readings → Goes_on t k next
    → (finish t (mirror t k (ledger_of t k)) (drafted t k.watermark next)).ledger ≡ ledger_of t next
ledger_right t k next s g =
    ap (λ (vs : List Visit). posted t vs (difference t (closed_after t (drafted t k.watermark next)) (closed_before t (mirror t k (ledger_of t k)))) (ledger_of t k)) (sym (gone_mirror t k next g))
    ∙ ap (λ (vs : List Visit). posted t (difference t (closed_of t k) (closed_of t next)) vs (ledger_of t k)) (sym (new_mirror t k next g))
    ∙ posted_right t (closed_of t k) (closed_of t next)
    (apart_kept t (closed t k.watermark) (visits t k.readings) (visits_apart t k.readings s))
    (apart_kept t (closed t next.watermark) (visits t next.readings) (visits_apart t next.readings g.sorted))

-- The store that stands for a reference, with its ledger.
abbrev pub image : Terms → Reference → Store
image t k = mirror t k (ledger_of t k)

store_parts : (a c : List Visit) (b d : List Reading) (m : ℕ) (e f : List Line) → a ≡ c → b ≡ d → e ≡ f
    → ◌≡◌ {A = Store} (record { live = a; seen = b; watermark = m; ledger = e }) (record { live = c; seen = d; watermark = m; ledger = f })
store_parts a c b d m e f p q r = cc

pub finish_mirror : (t : Terms) (k next : Reference) → SortedReadings t k.readings → Goes_on t k next
    → finish t (image t k) (drafted t k.watermark next) ≡ image t next
finish_mirror t k next s g =
    store_parts
    (live_only t next.watermark (live_only t k.watermark (visits t next.readings))) (live_only t next.watermark (visits t next.readings))
    (kept_only t next.watermark (kept_only t k.watermark next.readings)) (kept_only t next.watermark next.readings)
    next.watermark
    (finish t (mirror t k (ledger_of t k)) (drafted t k.watermark next)).ledger (ledger_of t next)
    (live_twice t k.watermark next.watermark g.rises (visits t next.readings))
    (kept_only_twice t k.watermark next.watermark g.rises next.readings)
    (ledger_right t k next s g)

-- By the plan, then by the command.
outcome_by_mirror : (t : Terms) (k : Reference) (p : Result Reference Refusal) → GoesOnBy t k p
    → store_outcome_by t (image t k) (drafted_by t k.watermark p) ≡ outcome_by t k p
outcome_by_mirror t k (Ok next) g = changes_mirror t k next (ledger_of t k) g
outcome_by_mirror t k (Err r) g = refl

step_by_mirror : (t : Terms) (k : Reference) (p : Result Reference Refusal) → SortedReadings t k.readings → GoesOnBy t k p
    → store_by t (image t k) (drafted_by t k.watermark p) ≡ image t (state_by k p)
step_by_mirror t k (Ok next) s g = finish_mirror t k next s g
step_by_mirror t k (Err r) s g = refl

pub outcome_mirror : (t : Terms) (k : Reference) → SortedReadings t k.readings → (c : Command) → store_outcome t (image t k) c ≡ outcome t k c
outcome_mirror t k s c = grind (arith, draft_mirror t k (ledger_of t k) s c, outcome_by_mirror t k (plan t k c) (plan_goes_on t k s c), plan_goes_on t k s c)

pub step_mirror : (t : Terms) (k : Reference) → SortedReadings t k.readings → (c : Command) → store_step t (image t k) c ≡ image t (step t k c)
step_mirror t k s c = grind (arith, draft_mirror t k (ledger_of t k) s c, step_by_mirror t k (plan t k c) s (plan_goes_on t k s c), plan_goes_on t k s c)

-- A whole list of commands.
pub outcomes_mirror : (t : Terms) (k : Reference) → SortedReadings t k.readings → (cs : List Command) → store_outcomes t (image t k) cs ≡ outcomes t k cs
outcomes_mirror t k s [] = refl
outcomes_mirror t k s (c ∷ cs) = grind (arith, outcome_mirror t k s c, step_mirror t k s c, outcomes_mirror t (step t k c) (step_sorted t k c s) cs, step_sorted t k c s)

pub after_mirror : (t : Terms) (k : Reference) → SortedReadings t k.readings → (cs : List Command) → store_after t (image t k) cs ≡ image t (after t k cs)
after_mirror t k s [] = refl
after_mirror t k s (c ∷ cs) = simp (step_mirror t k s c, after_mirror t (step t k c) (step_sorted t k c s) cs, step_sorted t k c s)

pub all_kept : (t : Terms) (cs : List Command) → store_after t empty_store cs ≡ image t (after t empty cs)
all_kept t cs = after_mirror t empty tt cs

-- A command that may be refused beforehand for any reason: the same, and nothing changes if it is.
pub outcome_guarded : (t : Terms) (k : Reference) → SortedReadings t k.readings → (c : Command) (o : Option Refusal)
    → store_outcome_by t (image t k) (or_fault o (draft t (image t k) c)) ≡ outcome_by t k (or_fault o (plan t k c))
outcome_guarded t k s c None = outcome_mirror t k s c
outcome_guarded t k s c (Some r) = refl

pub step_guarded : (t : Terms) (k : Reference) → SortedReadings t k.readings → (c : Command) (o : Option Refusal)
    → store_by t (image t k) (or_fault o (draft t (image t k) c)) ≡ image t (state_by k (or_fault o (plan t k c)))
step_guarded t k s c None = step_mirror t k s c
step_guarded t k s c (Some r) = refl

pub sorted_guarded : (t : Terms) (k : Reference) → SortedReadings t k.readings → (c : Command) (o : Option Refusal)
    → SortedReadings t (state_by k (or_fault o (plan t k c))).readings
sorted_guarded t k s c None = step_sorted t k c s
sorted_guarded t k s c (Some r) = s

-- Two reasons, one before the other, are one.
first_fault : Option Refusal → Option Refusal → Option Refusal
first_fault None q = q
first_fault (Some r) q = Some r

faults_once : {X : Type 0} (o q : Option Refusal) (p : Result X Refusal) → or_fault o (or_fault q p) ≡ or_fault (first_fault o q) p
unfolding first_fault
faults_once None q p = refl
faults_once (Some r) q p = refl

module _ (t : Terms) (k : Reference) (s : SortedReadings t k.readings) (c : Command) where
  drafts_once : bounded_draft t (image t k) c ≡ or_fault (first_fault (terms_fault t) (command_fault c)) (draft t (image t k) c)
  drafts_once = faults_once (terms_fault t) (command_fault c) (draft t (image t k) c)

  plans_once : bounded_plan t k c ≡ or_fault (first_fault (terms_fault t) (command_fault c)) (plan t k c)
  plans_once = faults_once (terms_fault t) (command_fault c) (plan t k c)

  outcome_bounded : store_outcome_by t (image t k) (bounded_draft t (image t k) c) ≡ outcome_by t k (bounded_plan t k c)
  outcome_bounded =
      ap (λ (d : Result Draft Refusal). store_outcome_by t (image t k) d) drafts_once
      ∙ outcome_guarded t k s c (first_fault (terms_fault t) (command_fault c))
      ∙ sym (ap (λ (p : Result Reference Refusal). outcome_by t k p) plans_once)

  step_bounded : store_by t (image t k) (bounded_draft t (image t k) c) ≡ image t (state_by k (bounded_plan t k c))
  step_bounded =
      ap (λ (d : Result Draft Refusal). store_by t (image t k) d) drafts_once
      ∙ step_guarded t k s c (first_fault (terms_fault t) (command_fault c))
      ∙ sym (ap (λ (p : Result Reference Refusal). image t (state_by k p)) plans_once)

  sorted_bounded : SortedReadings t (state_by k (bounded_plan t k c)).readings
  sorted_bounded =
      subst (λ (p : Result Reference Refusal). SortedReadings t (state_by k p).readings) (sym plans_once) (sorted_guarded t k s c (first_fault (terms_fault t) (command_fault c)))

-- A whole list of commands, with the bounds.
pub outcomes_bounded : (t : Terms) (k : Reference) → SortedReadings t k.readings → (cs : List Command) → bounded_store_outcomes t (image t k) cs ≡ bounded_outcomes t k cs
outcomes_bounded t k s [] = refl
outcomes_bounded t k s (c ∷ cs) =
    ap (λ (x : Outcome). x ∷ bounded_store_outcomes t (store_by t (image t k) (bounded_draft t (image t k) c)) cs) (outcome_bounded t k s c)
    ∙ ap (λ (x : Store). outcome_by t k (bounded_plan t k c) ∷ bounded_store_outcomes t x cs) (step_bounded t k s c)
    ∙ ap (λ (xs : List Outcome). outcome_by t k (bounded_plan t k c) ∷ xs) (outcomes_bounded t (state_by k (bounded_plan t k c)) (sorted_bounded t k s c) cs)

pub after_bounded : (t : Terms) (k : Reference) → SortedReadings t k.readings → (cs : List Command) → bounded_store_after t (image t k) cs ≡ image t (bounded_after t k cs)
after_bounded t k s [] = refl
after_bounded t k s (c ∷ cs) =
    ap (λ (x : Store). bounded_store_after t x cs) (step_bounded t k s c) ∙ after_bounded t (state_by k (bounded_plan t k c)) (sorted_bounded t k s c) cs

-- The theorems: from the empty store on.
pub forgetting_unseen : ForgettingUnseen
forgetting_unseen t cs = (outcomes_mirror t empty tt cs, ap (λ (s : Store). s.ledger) (after_mirror t empty tt cs))

pub bounded_unseen : BoundedUnseen
bounded_unseen t cs = (outcomes_bounded t empty tt cs, ap (λ (s : Store). s.ledger) (after_bounded t empty tt cs))
