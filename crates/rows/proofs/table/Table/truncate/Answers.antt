use Rattle.std.proofs.Common.{◌+◌, ◌-◌, ◌++◌, take, ap, ◌∙◌, arith}
use Rattle.std.proofs.lemmas.List.{append-nil, drop_all}
use Rattle.rows.specs.Tables.{rows_of}
use Rattle.rows.proofs.Becoming.{becomes_as, length_of}
use Rattle.rows.proofs.table.Table.truncate.Goals as goal

pub returns : goal.returns
returns g c =
    let t = c.args.self.now in
    let k = c.args.len in
    let past = drop_all (k + (t.len - k)) (rows_of t) (omega (arith, length_of t)) in
    record { after = becomes_as c.replace.ensures.after (omega arith) (ap (λ l. take k (rows_of t) ++ l) past ∙ append-nil (take k (rows_of t))) }
