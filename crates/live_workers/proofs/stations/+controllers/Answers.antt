use Rattle.std.proofs.Common.{◌≡◌, slice_index_or, length, sym, subst, ◌∙◌, eqb-true, arith}
use Rattle.plant_types.specs.declared.plan.ControllerPlan.{ControllerPlan}
use Rattle.live_workers.specs.declared.stations.NotedLog.{NotedLog}
use Rattle.live_workers.specs.declared.stations.Station.{Station}
use Rattle.live_workers.specs.Stations.{CanRun, HasRun, IsFresh}
use Rattle.live_workers.proofs.Ran.{all-halves, halves, ran-halves, ran-none, ran-one, zip-long}
use Rattle.live_workers.proofs.Ran.{zip-only}
use Rattle.live_workers.proofs.stations.+controllers.Goals as goal

pub run_controllers-returns-then-is_empty : goal.run_controllers-returns-then-is_empty
run_controllers-returns-then-is_empty g t c =
    let plant = c.args.run.now.plant.now in
    let side = g.G.RingSide.side in
    let known = g.G.RingSide.known in
    ran-none side (λ (plan : ControllerPlan) (station : Station _ NotedLog).
    IsFresh side known plant plan.node station)
    (HasRun known plant c.args.run.now.scans) c.args.plans.now c.args.stations.now
    c.requires.fresh (eqb-true _ _ (sym c.is_empty.ensures ∙ c.if-is_empty.true))

pub run_controllers-run_one-requires-clause-fresh :
    goal.run_controllers-run_one-requires-clause-fresh
run_controllers-run_one-requires-clause-fresh g t c κs within =
    let plant = c.args.run.now.plant.now in
    let side = g.G.RingSide.side in
    let known = g.G.RingSide.known in
    subst (λ (plan : ControllerPlan). IsFresh side known plant plan.node
    (slice_index_or c.args.stations.now 0 c.index-stations-0.result)) (sym c.index-plans-0.is)
    (zip-only (λ (plan : ControllerPlan) (station : Station _ NotedLog).
    IsFresh side known plant plan.node station)
    c.args.plans.now c.args.stations.now c.index-plans-0.result c.index-stations-0.result
    c.requires.fresh c.if-stations-eq1.true)

pub run_controllers-returns-then-stations-eq1 : goal.run_controllers-returns-then-stations-eq1
run_controllers-returns-then-stations-eq1 g t c =
    let plant = c.args.run.now.plant.now in
    let scans = c.args.run.now.scans in
    let side = g.G.RingSide.side in
    let known = g.G.RingSide.known in
    ran-one side (λ (plan : ControllerPlan) (station : Station _ NotedLog).
    IsFresh side known plant plan.node station)
    (HasRun known plant scans) c.args.plans.now c.args.stations.now c.index-plans-0.result
    c.index-stations-0.result c.run_one.new.station c.requires.fresh c.if-stations-eq1.true
    (subst (λ (plan : ControllerPlan). HasRun known plant scans plan c.run_one.new.station)
    c.index-plans-0.is c.run_one.ensures.ran)
    c.run_one.ensures.side

pub run_controllers-split_at-requires : goal.run_controllers-split_at-requires
run_controllers-split_at-requires g t c =
    let plant = c.args.run.now.plant.now in
    let side = g.G.RingSide.side in
    let known = g.G.RingSide.known in
    let long : length c.args.plans.now ≡ length c.args.stations.now =
    zip-long (λ (plan : ControllerPlan) (station : Station _ NotedLog).
    IsFresh side known plant plan.node station) c.args.plans.now c.args.stations.now
    c.requires.fresh in
    omega (arith, long)

pub run_controllers-run_halves-requires-clause-runnable_first :
    goal.run_controllers-run_halves-requires-clause-runnable_first
run_controllers-run_halves-requires-clause-runnable_first g t c κs within =
    let plant = c.args.run.now.plant.now in
    (all-halves (CanRun plant c.args.run.now.scans)
    c.args.plans.now c.split_at.result.0.now c.split_at.result.1.now
    c.split_at.ensures.by_index.0 c.requires.runnable).0

pub run_controllers-run_halves-requires-clause-runnable_second :
    goal.run_controllers-run_halves-requires-clause-runnable_second
run_controllers-run_halves-requires-clause-runnable_second g t c κs within =
    let plant = c.args.run.now.plant.now in
    (all-halves (CanRun plant c.args.run.now.scans)
    c.args.plans.now c.split_at.result.0.now c.split_at.result.1.now
    c.split_at.ensures.by_index.0 c.requires.runnable).1

pub run_controllers-run_halves-requires-clause-fresh_front :
    goal.run_controllers-run_halves-requires-clause-fresh_front
run_controllers-run_halves-requires-clause-fresh_front g t c κs within =
    let plant = c.args.run.now.plant.now in
    let side = g.G.RingSide.side in
    let known = g.G.RingSide.known in
    (halves (λ (plan : ControllerPlan) (station : Station _ NotedLog).
    IsFresh side known plant plan.node station)
    c.args.plans.now c.split_at.result.0.now c.split_at.result.1.now c.args.stations.now
    c.split_at_mut-front.result.0.now c.split_at_mut-front.result.1.now
    c.split_at.ensures.by_index.0 c.split_at_mut-front.ensures.value
    (c.split_at.ensures.front_len ∙ sym c.split_at_mut-front.ensures.front_len)
    c.requires.fresh).0

pub run_controllers-run_halves-requires-clause-fresh_back :
    goal.run_controllers-run_halves-requires-clause-fresh_back
run_controllers-run_halves-requires-clause-fresh_back g t c κs within =
    let plant = c.args.run.now.plant.now in
    let side = g.G.RingSide.side in
    let known = g.G.RingSide.known in
    (halves (λ (plan : ControllerPlan) (station : Station _ NotedLog).
    IsFresh side known plant plan.node station)
    c.args.plans.now c.split_at.result.0.now c.split_at.result.1.now c.args.stations.now
    c.split_at_mut-front.result.0.now c.split_at_mut-front.result.1.now
    c.split_at.ensures.by_index.0 c.split_at_mut-front.ensures.value
    (c.split_at.ensures.front_len ∙ sym c.split_at_mut-front.ensures.front_len)
    c.requires.fresh).1

pub run_controllers-returns : goal.run_controllers-returns
run_controllers-returns g t c =
    let plant = c.args.run.now.plant.now in
    let side = g.G.RingSide.side in
    let known = g.G.RingSide.known in
    ran-halves side (λ (plan : ControllerPlan) (station : Station _ NotedLog).
    IsFresh side known plant plan.node station)
    (HasRun known plant c.args.run.now.scans) c.args.plans.now c.split_at.result.0.now
    c.split_at.result.1.now c.args.stations.now _ _ c.run_halves.new.front
    c.run_halves.new.back c.split_at.ensures.by_index.0 c.split_at_mut-front.ensures.value
    c.run_halves.ensures.front c.run_halves.ensures.back
