-- A store in which every visit that is open has a line to come to: commands keep it so.
use Rattle.std.proofs.Common.{◌≡◌, ℕ, ◌+◌, ◌<◌, ◌≤◌, not, ltb, List, length, None, Ok, subst, arith}
use Rattle.std.proofs.lemmas.Bool.{le-leb, ltb-false}
use Rattle.std.proofs.lemmas.Bool.Decides.{nat_tests}
use Rattle.visit.specs.declared.Reading.{Reading}
use Rattle.visit.specs.declared.Terms.{Terms}
use Rattle.visit.specs.declared.Visit.{Visit}
use Rattle.visit.specs.Readings.{kept}
use Rattle.visit.specs.Visits.{live, same_visit, single}
use Rattle.command.specs.declared.Command.{Command}
use Rattle.command.specs.declared.Command.TheVariants.{Reading as AReading, Watermark}
use Rattle.model.specs.Sessions.{closed_visits, difference, insert_reading, some}
use Rattle.model.specs.Store.{Draft, Store, closed_after, closed_before, draft, empty_store, finish, merge_in}
use Rattle.model.proofs.Common.{kept_shorter, split}
use Rattle.live.specs.Tables.{open_only}
use Rattle.store.specs.declared.capacity.Capacity.{Capacity}
use Rattle.store.specs.Contents.{header_of}
use Rattle.store.specs.Faults.{room_fault}
use Rattle.store.specs.Layout.{lines_room, readings_room, visits_room}
use Rattle.guarantees.specs.Rows.{Fits}
use Rattle.guarantees.proofs.Clean.{empty_fits}
use Rattle.guarantees.proofs.Lengths.{closed_or_open, fewer_open, length-insert, length_merge, length_posted, new_or_open}
use Rattle.guarantees.proofs.ReadingBack.{HasRoom}

pub record Roomy (t : Terms) (s : Store) : Type 0 where
  pub fits : Fits s
  pub lines : length s.ledger + length (open_only t s.watermark s.live) ≤ lines_room

pub empty_roomy : (t : Terms) → Roomy t empty_store
empty_roomy t = grind (arith, nat_tests, empty_fits)

-- What a command leaves if there was room for it.
pub record LeavesRoom (t : Terms) (s : Store) (d : Draft) : Type 0 where
  pub has : HasRoom (header_of t s) d (finish t s d)
  pub roomy : Roomy t (finish t s d)

module _ (t : Terms) (s : Store) (r : Roomy t s) where
  -- The new lines, and those that the open visits may still need.
  room_by : (d : Draft) → length d.live ≤ visits_room → length d.seen ≤ readings_room
      → length s.ledger + (length (difference t (closed_after t d) (closed_before t s)) + length (open_only t d.watermark d.live)) ≤ lines_room → LeavesRoom t s d
  room_by d v n l = grind (arith, nat_tests, kept_shorter (live t d.watermark) d.live, kept_shorter (kept t d.watermark) d.seen, fewer_open t d.watermark d.watermark d.live, length_posted t (difference t (closed_before t s) (closed_after t d)) (difference t (closed_after t d) (closed_before t s)) s.ledger)

  -- A reading takes a visit, a reading and a line at most.
  room_reading : (cap : Capacity) (e : Reading) → room_fault cap (header_of t s) s (AReading e) ≡ None
      → LeavesRoom t s (record { live = merge_in t (single e) s.live; seen = insert_reading t e s.seen; watermark = s.watermark })
  room_reading cap e h =
      let v : length s.live < visits_room = grind (arith, nat_tests) in
      let n : length s.seen < readings_room = grind (arith, nat_tests) in
      let l : length s.ledger + length s.live < lines_room = grind (arith, nat_tests) in
      let vs : List Visit = merge_in t (single e) s.live in
      let more = length_merge t (single e) s.live in
      let one = length-insert t e s.seen in
      let new = kept_shorter (λ v. not (some (same_visit t v) (closed_before t s))) (closed_visits t s.watermark vs) in
      let parted = closed_or_open t s.watermark vs in
      room_by _ (omega arith) (omega arith) (omega arith)

  -- A watermark takes lines for visits that were open.
  room_watermark : (m : ℕ) → s.watermark ≤ m → LeavesRoom t s (record { live = s.live; seen = s.seen; watermark = m })
  room_watermark m h =
      let fits = r.fits in
      let parted = new_or_open t s.watermark m s.live h in
      room_by _ fits.visits fits.readings (omega arith)

  -- So it is never refused for want of room.
  pub watermark_free : (cap : Capacity) (m : ℕ) → room_fault cap (header_of t s) s (Watermark m) ≡ None
  watermark_free cap m =
      let free = le-leb (length s.ledger + length (open_only t s.watermark s.live)) lines_room r.lines in
      simp free

  -- Either kind of command leaves room.
  pub leaves_room : (cap : Capacity) (c : Command) (d : Draft) → room_fault cap (header_of t s) s c ≡ None → draft t s c ≡ Ok d → LeavesRoom t s d
  leaves_room cap (AReading e) d h q = grind (arith, nat_tests, room_reading cap e h)
  leaves_room cap (Watermark m) d h q =
      split (ltb m s.watermark)
      (λ o. absurd (let z : ◌≡◌ {A = ℕ} 0 1 = cc (simp o at q) in omega arith))
      (λ o. subst (LeavesRoom t s) (cc (simp o at q)) (room_watermark m (ltb-false m s.watermark o)))
