-- What is known of a store in order, at each step of a command.
use Rattle.std.proofs.Common.{◌≡◌, ℕ, false, List, sym, ap, ◌∙◌, arith}
use Rattle.visit.specs.declared.Clock.{Clock}
use Rattle.visit.specs.declared.Reading.{Reading}
use Rattle.visit.specs.declared.Visit.{Visit}
use Rattle.visit.specs.Order.{RisingBy}
use Rattle.visit.specs.Readings.{reading_before, too_late}
use Rattle.visit.specs.Visits.{single}
use Rattle.model.specs.Sessions.{insert_reading}
use Rattle.model.specs.Store.{Store, merge_in}
use Rattle.model.proofs.Expiry.{insert_kept, live_merge, timely_live, timely_reaches}
use Rattle.live.specs.Apart.{Apart}
use Rattle.live.proofs.Together.{apart_model}
use Rattle.rows.specs.declared.search.Search.{Search}
use Rattle.rows.specs.Search.{Allows}
use Rattle.rows.specs.Tables.{rows_seen}
use Rattle.rows.proofs.Halves.{allows_kept}
use Rattle.store.specs.declared.header.Header.{Header}
use Rattle.store.specs.declared.view.View.{View}
use Rattle.store.specs.Contents.{store_in, terms_in}
use Rattle.store.specs.Order.{Orderly, Settled}
use Rattle.store.specs.Views.{Shows}
use Rattle.store.proofs.Views.{store_shown}

pub readings_in_order : (s : Search) (xs : List ℕ) (v : View) → Shows v xs → Allows s (Orderly (terms_in xs) (store_in xs)) → Allows s (RisingBy (reading_before v.clock.terms) (rows_seen v.readings))
readings_in_order s xs v shows o =
    let terms : v.clock.terms ≡ terms_in xs = ap (λ (h : Header). h.clock.terms) shows.header in
    let seen : rows_seen v.readings ≡ (store_in xs).seen = ap (λ (s : Store). s.seen) (store_shown shows) in
    rw (terms, seen) (allows_kept s (λ (d : Orderly (terms_in xs) (store_in xs)). d.current.readings) o)

-- Where nothing has expired, a reading that is not too late leaves it so.
pub taken_settled : (k : Clock) (e : Reading) (vs : List Visit) (es : List Reading) → too_late k.terms k.watermark e ≡ false
    → Apart k.terms vs → RisingBy (reading_before k.terms) es → Settled k vs es → Settled k (merge_in k.terms (single e) vs) (insert_reading k.terms e es)
taken_settled k e vs es timely apart order s =
    let t = k.terms in
    let m = k.watermark in
    record {
      visits = live_merge t m (single e) vs (omega arith) (timely_live t m e timely) (timely_reaches t m e timely vs) (apart_model t vs apart) ∙ ap (merge_in t (single e)) s.visits;
      readings = sym (insert_kept t m e es timely order) ∙ ap (insert_reading t e) s.readings;
    }
