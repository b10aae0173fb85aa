use Rattle.std.proofs.Common.{rules, option_to_list, arith}
use Rattle.changes.proofs.Written.{added_written}
use Rattle.changes.proofs.out.put_added.Goals as goal

pub returns-clause-out : goal.returns-clause-out
returns-clause-out c =
    let put = c.put_rows-added in
    added_written c.args.retracted put.result (option_to_list c.args.added) c.args.out.now put.new.target c.put_counts.new.out (omega arith) (search rules) (search rules) c.put_counts.ensures
