-- A store that stands for a reference is in order, and nothing in it has expired.
use Rattle.std.proofs.Common.{List, [], ◌∷◌, arith}
use Rattle.visit.specs.declared.Line.{Line}
use Rattle.visit.specs.declared.Terms.{Terms}
use Rattle.visit.specs.Lines.{line_before}
use Rattle.visit.specs.Order.{RisingBy}
use Rattle.visit.specs.Readings.{kept, reading_before}
use Rattle.visit.specs.Visits.{live}
use Rattle.model.specs.Reference.{Reference, closed_of}
use Rattle.model.specs.Sessions.{visits}
use Rattle.model.specs.Unseen.{Lined}
use Rattle.model.proofs.Expiry.{kept_only_twice, live_twice}
use Rattle.model.proofs.Lines.{totals_right}
use Rattle.model.proofs.Mirror.{image}
use Rattle.model.proofs.Order.{SortedReadings, apart_kept, visits_apart}
use Rattle.model.proofs.Same.{rising_kept}
use Rattle.live.proofs.Together.{model_apart}
use Rattle.store.specs.Order.{Orderly}

lined_rising : (t : Terms) (ls : List Line) → Lined t ls → RisingBy (line_before t) ls
lined_rising t [] l = tt
lined_rising t (x ∷ xs) l = (l.1, lined_rising t xs l.2)

pub image_orderly : (t : Terms) (k : Reference) → SortedReadings t k.readings → Orderly t (image t k)
image_orderly t k s =
    let m = k.watermark in
    let vs = visits t k.readings in
    record {
      current = record {
        visits = model_apart t _ (apart_kept t (live t m) vs (visits_apart t k.readings s));
        readings = rising_kept (reading_before t) (kept t m) k.readings s;
        settled = record { visits = live_twice t m m (omega arith) vs; readings = kept_only_twice t m m (omega arith) k.readings };
      };
      lines = lined_rising t _ (totals_right t (closed_of t k)).0;
    }
