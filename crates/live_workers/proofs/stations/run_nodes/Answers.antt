use Rattle.std.proofs.Common.{rules, sym, subst, List}
use Rattle.plant_types.specs.declared.net.HostPlan.{HostPlan}
use Rattle.plant_types.specs.declared.plan.ControllerPlan.{ControllerPlan}
use Rattle.live_workers.specs.Stations.{AreControllersFresh, AreHostsFresh, CanRunAll, CanServeAll}
use Rattle.live_workers.proofs.stations.run_nodes.Goals as goal

pub join_mut-requires-after_bounds : goal.join_mut-requires-after_bounds
join_mut-requires-after_bounds g c κs within =
    let plant = c.args.run.now.plant.now in
    let scans = c.args.run.now.scans in
    let side = g.G.RingSide.side in
    let known = g.G.RingSide.known in
    let plans = sym c.as_slice-plans.ensures in
    let host_plans = sym c.as_slice-host_plans.ensures in
    let ready = c.requires.ready in (
      (
        (search rules, search rules),
        (
          subst (λ (l : List ControllerPlan). CanRunAll plant scans l) plans ready.can_run,
          (
            subst (λ (l : List ControllerPlan). AreControllersFresh side known plant l
                c.args.controllers.now) plans ready.fresh,
            (search rules, search rules, search rules),
          ),
        ),
      ),
      (
        (search rules, search rules),
        (
          subst (λ (l : List HostPlan). CanServeAll l) host_plans ready.can_serve,
          (
            subst (λ (l : List HostPlan). AreHostsFresh side known plant l c.args.hosts.now)
                host_plans ready.fresh_hosts,
            (search rules, search rules, search rules),
          ),
        ),
      ),
    )
