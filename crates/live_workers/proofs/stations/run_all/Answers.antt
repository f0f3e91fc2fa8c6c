use Rattle.std.proofs.Common.{rules, sym, subst, List}
use Rattle.plant_types.specs.declared.net.BridgePlan.{BridgePlan}
use Rattle.live_workers.specs.Stations.{AreBridgePlans, AreBridgesFresh}
use Rattle.live_workers.proofs.stations.run_all.Goals as goal

pub join_mut-requires-after_bounds : goal.join_mut-requires-after_bounds
join_mut-requires-after_bounds g c κs within =
    let plant = c.args.run.now.plant.now in
    let side = g.G.RingSide.side in
    let known = g.G.RingSide.known in
    let plans = sym c.as_slice-plans.ensures in (
      (
        (search rules, search rules),
        (c.requires.nodes, (search rules, search rules, search rules)),
      ),
      (
        (search rules, search rules),
        (
          subst (λ (l : List BridgePlan). AreBridgePlans l) plans c.requires.bridges.plans,
          (
            subst (λ (l : List BridgePlan). AreBridgesFresh side known plant l c.args.bridges.now)
                plans c.requires.bridges.fresh,
            (search rules, search rules, search rules),
          ),
        ),
      ),
    )
