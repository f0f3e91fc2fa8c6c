use Rattle.std.proofs.Common.{true, refl, subst}
use Rattle.plant_types.specs.declared.net.NetPlan.{NetPlan}
use Rattle.plant_types.specs.Plans.{net_of}
use Rattle.bridge_station.specs.Stands.{StartsBridge}
use Rattle.serial_run.proofs.stations.bridge_of.Goals as goal

pub returns : goal.returns
returns c =
    let plant = c.args.plant.now in
    let plan = c.args.plan.now in
    let station = c.in_ok-station.station in
    record {
      plan_is = refl;
      starts = subst (λ (net : NetPlan). StartsBridge plan (net_of plant plan.left) net true
          station) c.own_net-right_net.ensures
          (subst (λ (net : NetPlan). StartsBridge plan net c.own_net-right_net.result.now true
          station) c.own_net-left_net.ensures c.in_ok-station.ensures);
    }
