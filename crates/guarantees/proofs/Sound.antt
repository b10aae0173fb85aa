-- Nothing is wrong with a row that stands for few readings of small amounts.
use Rattle.std.proofs.Common.{◌≡◌, ℕ, ◌<◌, ◌≤◌, List, length, None, sum_by, arith}
use Rattle.std.specs.List.{AllByRecursion}
use Rattle.std.proofs.ByRecursion.{all_kept_by, All-weaker}
use Rattle.std.proofs.lemmas.Bool.{lt-leb}
use Rattle.visit.specs.declared.Line.{Line}
use Rattle.visit.specs.declared.Reading.{Reading}
use Rattle.visit.specs.declared.Terms.{Terms}
use Rattle.visit.specs.declared.Visit.{Visit}
use Rattle.visit.specs.Readings.{kept}
use Rattle.visit.specs.Visits.{closed, live}
use Rattle.model.specs.Reference.{Reference, closed_of, ledger_of}
use Rattle.model.specs.Sessions.{visits}
use Rattle.model.proofs.Common.{all_both, kept_shorter}
use Rattle.model.proofs.Mirror.{image}
use Rattle.visit.specs.Limits.{time_limit}
use Rattle.rows.specs.Limits.{count_limit, sum_limit}
use Rattle.store.specs.Faults.{store_faults}
use Rattle.guarantees.specs.Rows.{clean_row}
use Rattle.guarantees.proofs.Limits.{SmallLine, SmallReading, SmallVisit, clean_sound}
use Rattle.guarantees.proofs.Standing.{Standing}
use Rattle.guarantees.proofs.Sums.{counts_taken, each_in_sum, few_visits, kept_sum, sums_taken, total_sum, total_visits, visit_times}

visit_sound : (v : Visit) → ((v.from < time_limit) × (v.to < time_limit)) × ((v.count < count_limit) × (v.sum < sum_limit)) → SmallVisit v
visit_sound v h =
    simp (lt-leb time_limit v.from h.0.0, lt-leb time_limit v.to h.0.1, lt-leb count_limit v.count h.1.0, lt-leb sum_limit v.sum h.1.1)

reading_sound : (e : Reading) → e.time < time_limit → SmallReading e
reading_sound e h = simp (lt-leb time_limit e.time h)

line_sound : (l : Line) → (l.visits < count_limit) × (l.sum < sum_limit) → SmallLine l
line_sound l h = simp (lt-leb count_limit l.visits h.0, lt-leb sum_limit l.sum h.1)

below : {X : Type 0} (f : X → ℕ) (n : ℕ) (xs : List X) → sum_by f xs < n → AllByRecursion (λ x. f x < n) xs
below f n xs h = All-weaker (λ x. f x ≤ sum_by f xs) (λ x. f x < n) (λ x l. omega arith) xs (each_in_sum f xs)

module _ (t : Terms) (k : Reference) (s : Standing t k) (few : length k.readings < count_limit) (small : sum_by (λ e. e.amount) k.readings < sum_limit) where
  abbrev all_visits : List Visit
  all_visits = visits t k.readings

  small_visits : AllByRecursion SmallVisit all_visits
  small_visits =
      All-weaker _ SmallVisit visit_sound all_visits
      (all_both (λ v. (v.from < time_limit) × (v.to < time_limit)) (λ v. (v.count < count_limit) × (v.sum < sum_limit)) all_visits (visit_times t time_limit k.readings s.times)
      (all_both (λ v. v.count < count_limit) (λ v. v.sum < sum_limit) all_visits
      (below (λ v. v.count) count_limit all_visits (omega (arith, counts_taken t k.readings)))
      (below (λ v. v.sum) sum_limit all_visits (omega (arith, sums_taken t k.readings)))))

  small_lines : AllByRecursion SmallLine (ledger_of t k)
  small_lines =
      let closed_few = kept_shorter (closed t k.watermark) all_visits in
      let closed_small = kept_sum (λ v. v.sum) (closed t k.watermark) all_visits in
      All-weaker _ SmallLine line_sound (ledger_of t k)
      (all_both (λ l. l.visits < count_limit) (λ l. l.sum < sum_limit) (ledger_of t k)
      (below (λ l. l.visits) count_limit (ledger_of t k) (omega (arith, total_visits t (closed_of t k), few_visits t k.readings, closed_few)))
      (below (λ l. l.sum) sum_limit (ledger_of t k) (omega (arith, total_sum t (closed_of t k), sums_taken t k.readings, closed_small))))

  -- So nothing is wrong with the row.
  pub sound_now : (rest : List ℕ) → AllByRecursion (λ f. f ≡ None) (store_faults (clean_row t (image t k) rest))
  sound_now rest =
      clean_sound t (image t k) rest s.roomy.fits
      (record {
        live = all_kept_by (live t k.watermark) SmallVisit all_visits small_visits;
        seen = all_kept_by (kept t k.watermark) SmallReading k.readings (All-weaker _ SmallReading reading_sound k.readings s.times);
        ledger = small_lines;
      })
