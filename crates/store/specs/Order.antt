-- A store of which more is known than that its numbers are within their limits: what commands have written.
use Rattle.std.specs.Prelude.{◌≡◌, List}
use Rattle.visit.specs.declared.Clock.{Clock}
use Rattle.visit.specs.declared.Reading.{Reading}
use Rattle.visit.specs.declared.Terms.{Terms}
use Rattle.visit.specs.declared.Visit.{Visit}
use Rattle.visit.specs.Lines.{line_before}
use Rattle.visit.specs.Order.{RisingBy}
use Rattle.visit.specs.Readings.{reading_before}
use Rattle.model.specs.Store.{Draft, Store, kept_only, live_only}
use Rattle.live.specs.Apart.{Apart}
use Rattle.store.specs.Steps.{before}

-- Nothing has expired.
pub record Settled (k : Clock) (vs : List Visit) (es : List Reading) : Type 0 where
  pub visits : live_only k.terms k.watermark vs ≡ vs
  pub readings : kept_only k.terms k.watermark es ≡ es

-- Visits in order and apart, readings in order, and nothing that has expired.
pub record Current (t : Terms) (b : Draft) : Type 0 where
  pub visits : Apart t b.live
  pub readings : RisingBy (reading_before t) b.seen
  pub settled : Settled (record { terms = t; watermark = b.watermark }) b.live b.seen

-- And lines in order.
pub record Orderly (t : Terms) (s : Store) : Type 0 where
  pub current : Current t (before s)
  pub lines : RisingBy (line_before t) s.ledger
