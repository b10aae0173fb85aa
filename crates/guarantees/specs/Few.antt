-- How much one call changes, by the numbers in `out`.
use Rattle.std.specs.Prelude.{Ok, ◌≡◌, ℕ, ◌≤◌, List, [], ◌∷◌, drop, filter}
use Rattle.visit.specs.declared.Reading.{Reading}
use Rattle.visit.specs.declared.Terms.{Terms}
use Rattle.command.specs.declared.Command.TheVariants.{Reading as AReading, Watermark}
use Rattle.command.specs.Outcomes.{changed}
use Rattle.model.specs.Few.{became, met}
use Rattle.model.specs.Reference.{Reference}
use Rattle.model.specs.Sessions.{closed_visits}
use Rattle.changes.specs.Changed.{newly_closed}
use Rattle.rows.specs.Out.{out_head, gone_count, new_count}
use Rattle.store.specs.Contents.{header_in, store_in, terms_in}
use Rattle.command.specs.Cells.{command_in}
use Rattle.guarantees.specs.AnyTime.{reference_now, row_now}
use Rattle.guarantees.specs.Calls.{Call, answer}
use Rattle.guarantees.specs.Faithful.{out_after}

-- What a reading e that is done writes, where the reference is k: the visits that it meets, if they were closed, and what they become, if that is
-- closed; all else in `out` is as it was. So it retracts two visits at most and adds one at most.
pub record FewWritten (t : Terms) (k : Reference) (e : Reading) (before after : List ℕ) : Type 0 where
  pub out : after ≡ out_after (changed (closed_visits t k.watermark (met t k e)) (closed_visits t k.watermark (became t k e ∷ []))) before
  pub few_retracted : gone_count after ≤ 2
  pub few_added : new_count after ≤ 1

abbrev pub RowFewChanges : Type 0
RowFewChanges =
    (t : Terms) (xs : List ℕ) (before : List Call) (c : Call) (e : Reading) (n : ℕ)
    → command_in c.command ≡ AReading e → (answer (row_now t xs before) c).reply ≡ Ok n
    → FewWritten t (reference_now t xs before) e c.out (answer (row_now t xs before) c).out

-- A reading that is not behind the watermark in the row changes nothing that is closed: two counts of 0, and all else in `out` as it was.
abbrev pub RowOnTime : Type 0
RowOnTime =
    (t : Terms) (xs : List ℕ) (before : List Call) (c : Call) (e : Reading) (n : ℕ)
    → command_in c.command ≡ AReading e → (header_in (row_now t xs before)).clock.watermark ≤ e.time → (answer (row_now t xs before) c).reply ≡ Ok n
    → (n ≡ 0) × ((answer (row_now t xs before) c).out ≡ 0 ∷ 0 ∷ drop out_head c.out)

-- A watermark that is done retracts nothing and adds the live visits that it closes, in their order, and all else in `out` is as it was. This holds on
-- any row at all.
abbrev pub RowWatermarkAdds : Type 0
RowWatermarkAdds =
    (xs : List ℕ) (c : Call) (m n : ℕ)
    → command_in c.command ≡ Watermark m → (answer xs c).reply ≡ Ok n
    → (answer xs c).out ≡ out_after (changed [] (filter (newly_closed (terms_in xs) (header_in xs).clock.watermark m) (store_in xs).live)) c.out
