-- Visits: what two make together, and the named tests on them. Every test takes the terms.
use Rattle.std.specs.Prelude.{ℕ, ◌+◌, min, max, Bool, not, ◌&&◌, ◌||◌, ◌==◌, nat_le, nat_lt}
use Rattle.visit.specs.declared.Reading.{Reading}
use Rattle.visit.specs.declared.Terms.{Terms}
use Rattle.visit.specs.declared.Visit.{Visit}
use Rattle.visit.specs.Readings.{gap_of}

-- A reading is first a visit of its own.
abbrev pub single : Reading → Visit
single e = record { card = e.card; from = e.time; to = e.time; count = 1; sum = e.amount }

-- A reading before all of a visit's joins it if it is of its card and the visit begins at most the gap later.
unfoldable pub joins : Terms → Reading → Visit → Bool
joins t e v = e.card == v.card && nat_le v.from (e.time + gap_of t e.card)

-- The visit that such a reading makes longer at its front.
abbrev pub grown : Reading → Visit → Visit
grown e v = record { card = v.card; from = e.time; to = v.to; count = v.count + 1; sum = v.sum + e.amount }

-- Two visits of a card are near if each begins at most the gap after the other ends.
unfoldable pub near : Terms → Visit → Visit → Bool
near t a b = a.card == b.card && (nat_le a.from (b.to + gap_of t a.card) && nat_le b.from (a.to + gap_of t a.card))

-- The visit made of two.
abbrev pub merged : Visit → Visit → Visit
merged a b =
    record {
      card = a.card;
      from = min a.from b.from;
      to = max a.to b.to;
      count = a.count + b.count;
      sum = a.sum + b.sum;
    }

-- The order of visits: by card, then by beginning.
unfoldable pub visit_before : Terms → Visit → Visit → Bool
visit_before t a b = nat_lt a.card b.card || (a.card == b.card && nat_lt a.from b.from)

-- Two visits are the same if all five numbers are.
unfoldable pub same_visit : Terms → Visit → Visit → Bool
same_visit t a b =
    (a.card == b.card)
    && (a.from == b.from && (a.to == b.to && (a.count == b.count && a.sum == b.sum)))

-- A visit is closed once the watermark m is more than the gap past its last reading.
unfoldable pub closed : Terms → ℕ → Visit → Bool
closed t m v = nat_lt (v.to + gap_of t v.card) m

-- A visit is expired once the watermark m is more than gap and lateness past its last reading; until then it is live.
unfoldable pub expired : Terms → ℕ → Visit → Bool
expired t m v = nat_lt (v.to + gap_of t v.card + t.lateness) m

unfoldable pub live : Terms → ℕ → Visit → Bool
live t m v = not (expired t m v)
