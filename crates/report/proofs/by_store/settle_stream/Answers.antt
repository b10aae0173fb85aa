use Rattle.std.proofs.Common.{ℕ, List, rules, ap, ◌∙◌}
use Rattle.changes.specs.Room.{out_width}
use Rattle.owned.specs.State.{IsNew, out_long, row_of}
use Rattle.store.specs.declared.capacity.Capacity.{Capacity}
use Rattle.report.specs.Texts.{settle_text, store_prints}
use Rattle.report.proofs.Comparing.{streamed_as_recomputed}
use Rattle.report.proofs.Sources.{streamed_text}
use Rattle.report.proofs.by_store.settle_stream.Goals as goal

pub returns-clause-report : goal.returns-clause-report
returns-clause-report g c =
    let cap = c.args.capacity in
    streamed_text _ _ (settle_text cap) _ _ _ c.stream.result (λ t s cs made.
    let new : IsNew t cap s = search rules in
    ap (λ (k : Capacity). store_prints k (out_long s) (row_of s) cs) new.capacity ∙ ap (λ (n : ℕ). store_prints cap n (row_of s) cs) new.out
    ∙ ap (λ (xs : List ℕ). store_prints cap out_width xs cs) new.row) c.stream.ensures

pub returns-clause-same : goal.returns-clause-same
returns-clause-same g c = streamed_as_recomputed c.args.capacity _ _ _ c.stream.result (returns-clause-report g c)
