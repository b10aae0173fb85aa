use Rattle.std.proofs.Common.{◌≡◌, length, take, sym, arith, length-take-le}
use Rattle.report.proofs.Sources.{front_known, front_short}
use Rattle.report.proofs.streams.read_front.Goals as goal

pub returns-in_default : goal.returns-in_default
returns-in_default g c =
    let found = c.in_ok-found in
    let long : length (take found.found c.fill.new.buffer) ≡ found.found = length-take-le _ _ found.ensures.bound in
    front_short _ _ (g.R.Read.remaining c.fill.new.source) _ found.ensures.bytes (λ few. found.ensures.end (omega arith)) (sym c.in_default.ensures.value)

pub returns : goal.returns
returns g c =
    let found = c.in_ok-found in
    let long : length (take found.found c.fill.new.buffer) ≡ found.found = length-take-le _ _ found.ensures.bound in
    let enough = c.in-Some.ensures.bound in
    front_known _ (g.R.Read.remaining c.fill.new.source) _ c.in-Some.terms found.ensures.bytes (omega (arith, found.ensures.bound, c.fill.auto.buffer)) (sym c.in-Some.ensures.value)
