use Rattle.rows.specs.Tables.{rows_seen}
use Rattle.model.proofs.Adding.{apart_rising}
use Rattle.live.proofs.Together.{apart_model}
use Rattle.live.proofs.gathering.gather.Goals as goal

pub place-before-requires : goal.place-before-requires
place-before-requires c =
    let vs = rows_seen c.args.rows in
    record { order = apart_rising c.args.terms vs (apart_model c.args.terms vs c.requires.apart) }
