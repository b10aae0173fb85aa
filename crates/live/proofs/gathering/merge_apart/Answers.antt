use Rattle.std.proofs.Common.{◌≡◌, ◌+◌, [], ◌∷◌, ◌++◌, length, take, drop, sym, ap, ◌∙◌, arith}
use Rattle.model.specs.Few.{merged_with}
use Rattle.model.specs.Store.{merge_in}
use Rattle.rows.specs.Tables.{rows_of}
use Rattle.rows.proofs.Becoming.{becomes_as, len_replaced, length_of}
use Rattle.visit.specs.Sums.{counts, sums}
use Rattle.live.specs.Apart.{own}
use Rattle.live.specs.Near.{visits_of}
use Rattle.live.specs.Walk.{became, taken_in}
use Rattle.live.proofs.Parts.{became_merged, share_taken_in, taken_within}
use Rattle.live.proofs.Together.{merged_together}
use Rattle.live.proofs.gathering.merge_apart.Goals as goal

pub merge_all-whole-requires : goal.merge_all-whole-requires
merge_all-whole-requires c =
    let v = own c.args.gathered.now in
    let vs = rows_of c.args.table.now in
    let near : visits_of c.args.gathered.now.near ≡ taken_in c.args._terms v vs = cc c.requires.gathers.near in
    record {
      count = omega (arith, ap counts near, share_taken_in (λ u. u.count) c.args._terms v vs, c.requires.fits.count);
      sum = omega (arith, ap sums near, share_taken_in (λ u. u.sum) c.args._terms v vs, c.requires.fits.sum);
    }

pub replace-requires-clause-place : goal.replace-requires-clause-place
replace-requires-clause-place c =
    let t = c.args.table.now in
    let v = own c.args.gathered.now in
    let near : visits_of c.args.gathered.now.near ≡ taken_in c.args._terms v (rows_of t) = cc c.requires.gathers.near in
    omega (arith, ap length near, c.len.ensures, c.requires.gathers.place, taken_within c.args._terms v (rows_of t) t.len (length_of t))

pub returns : goal.returns
returns c =
    let t = c.args.table.now in
    let terms = c.args._terms in
    let v = own c.args.gathered.now in
    let vs = rows_of t in
    let gone = taken_in terms v vs in
    let within = taken_within terms v vs t.len (length_of t) in
    let near : visits_of c.args.gathered.now.near ≡ gone = cc c.requires.gathers.near in
    let len : c.len.result ≡ length gone = c.len.ensures ∙ ap length near in
    let whole : c.merge_all-whole.result ≡ became terms v vs = c.merge_all-whole.ensures ∙ ap (merged_with v) near ∙ sym (became_merged terms v vs) in
    let merged : take c.args.gathered.now.at vs ++ (c.merge_all-whole.result ∷ drop (c.args.gathered.now.at + c.len.result) vs) ≡ merge_in terms v vs =
    rw (c.requires.gathers.place, len, whole) (sym (merged_together terms v vs c.requires.order c.requires.apart)) in
    let many = len_replaced c.args.gathered.now.at c.len.result (c.merge_all-whole.result ∷ []) (omega (arith, c.requires.gathers.place, len, within)) c.replace.ensures.after in
    record { made = c.merge_all-whole.ensures; after = becomes_as c.replace.ensures.after (omega (arith, many, len, within)) merged }
