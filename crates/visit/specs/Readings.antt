-- Terms and readings: the named tests on them. Every test takes the terms.
use Rattle.std.specs.Prelude.{ℕ, ◌+◌, Bool, not, ◌&&◌, ◌||◌, ◌==◌, nat_lt}
use Rattle.visit.specs.declared.Reading.{Reading}
use Rattle.visit.specs.declared.Terms.{Terms}

-- The longest pause within a visit of this card.
unfoldable pub gap_of : Terms → ℕ → ℕ
gap_of t card = t.gap

-- Two readings are the same if card, time and serial are; the amount does not count.
unfoldable pub same_reading : Terms → Reading → Reading → Bool
same_reading t a b = a.card == b.card && (a.time == b.time && a.serial == b.serial)

-- The order of readings: by card, then by time, then by serial.
unfoldable pub reading_before : Terms → Reading → Reading → Bool
reading_before t a b =
    nat_lt a.card b.card
    || (a.card == b.card && (nat_lt a.time b.time || (a.time == b.time && nat_lt a.serial b.serial)))

-- A reading is too late if the watermark m is more than the lateness past it.
unfoldable pub too_late : Terms → ℕ → Reading → Bool
too_late t m e = nat_lt (e.time + t.lateness) m

-- A taken reading is kept while the same reading, coming again, would not be too late.
unfoldable pub kept : Terms → ℕ → Reading → Bool
kept t m e = not (too_late t m e)
