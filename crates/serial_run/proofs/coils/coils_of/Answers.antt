use Rattle.std.proofs.Common.{◌≡◌, ◌+◌, drop, ap, ◌∙◌, arith}
use Rattle.std.specs.List.{sum_by, zip}
use Rattle.std.proofs.lemmas.List.Sums.{sum_by-cons}
use Rattle.serial_run.specs.Stations.{station_coils}
use Rattle.serial_run.proofs.Lists.{pairs-cut}
use Rattle.serial_run.proofs.coils.coils_of.Goals as goal

pub loop-at-preserved : goal.loop-at-preserved
loop-at-preserved c =
    let plans = c.args.plans.now in
    let stations = c.args.stations.now in
    let at = c.loop-at.at in
    let plan = c.index-plans-at.result in
    let station = c.index-stations-at.result in
    let cut = pairs-cut plans stations at plan station (omega arith) (omega arith)
    c.index-plans-at.is c.index-stations-at.is in
    let rest = zip (drop (at + 1) plans) (drop (at + 1) stations) in
    let sum : sum_by station_coils (zip (drop at plans) (drop at stations))
    ≡ station_coils (plan, station) + sum_by station_coils rest =
    ap (sum_by station_coils) cut ∙ sum_by-cons station_coils (plan, station) rest in
    record {
      total = omega (arith, sum, c.coils_on.ensures, c.loop-at.invariant.total);
      small = omega (arith, c.loop-at.invariant.small);
    }
