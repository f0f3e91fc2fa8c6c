use Rattle.std.proofs.Common.{◌≡◌, slice_index_or, length, sym, subst, ◌∙◌, eqb-true, arith}
use Rattle.plant_types.specs.Plans.{IsBridgePlan}
use Rattle.plant_types.specs.declared.net.BridgePlan.{BridgePlan}
use Rattle.joint_history.specs.declared.joint.BridgeLog.{BridgeLog}
use Rattle.live_workers.specs.declared.stations.Station.{Station}
use Rattle.live_workers.specs.Stations.{BridgeHasRun, IsBridgeFresh, ends_side}
use Rattle.live_workers.proofs.Ran.{all-halves, halves, ran-halves, ran-none, ran-one, zip-long}
use Rattle.live_workers.proofs.Ran.{zip-only}
use Rattle.live_workers.proofs.stations.+bridges.Goals as goal

pub run_bridges-returns-then-is_empty : goal.run_bridges-returns-then-is_empty
run_bridges-returns-then-is_empty g t c =
    let plant = c.args.run.now.plant.now in
    let side = g.G.RingSide.side in
    let known = g.G.RingSide.known in
    ran-none (ends_side side) (IsBridgeFresh side known plant)
    (BridgeHasRun known plant) c.args.plans.now c.args.stations.now
    c.requires.fresh (eqb-true _ _ (sym c.is_empty.ensures ∙ c.if-is_empty.true))

pub run_bridges-cross_one-requires-clause-fresh : goal.run_bridges-cross_one-requires-clause-fresh
run_bridges-cross_one-requires-clause-fresh g t c κs within =
    zip-only (IsBridgeFresh g.G.RingSide.side g.G.RingSide.known c.args.run.now.plant.now)
    c.args.plans.now c.args.stations.now _ c.index-stations-0.result
    c.requires.fresh c.if-stations-eq1.true

pub run_bridges-returns-then-stations-eq1 : goal.run_bridges-returns-then-stations-eq1
run_bridges-returns-then-stations-eq1 g t c =
    let plant = c.args.run.now.plant.now in
    let side = g.G.RingSide.side in
    let known = g.G.RingSide.known in
    ran-one (ends_side side) (IsBridgeFresh side known plant)
    (BridgeHasRun known plant) c.args.plans.now c.args.stations.now _
    c.index-stations-0.result c.cross_one.new.station c.requires.fresh c.if-stations-eq1.true
    c.cross_one.ensures.ran c.cross_one.ensures.sides

pub run_bridges-split_at-requires : goal.run_bridges-split_at-requires
run_bridges-split_at-requires g t c =
    let plant = c.args.run.now.plant.now in
    let side = g.G.RingSide.side in
    let known = g.G.RingSide.known in
    let long : length c.args.plans.now ≡ length c.args.stations.now =
    zip-long (IsBridgeFresh side known plant) c.args.plans.now c.args.stations.now
    c.requires.fresh in
    omega (arith, long)

pub run_bridges-run_bridge_halves-requires-clause-runnable :
    goal.run_bridges-run_bridge_halves-requires-clause-runnable
run_bridges-run_bridge_halves-requires-clause-runnable g t c κs within =
    all-halves IsBridgePlan c.args.plans.now c.split_at.result.0.now c.split_at.result.1.now
    c.split_at.ensures.by_index.0 c.requires.runnable

pub run_bridges-run_bridge_halves-requires-clause-fresh_front :
    goal.run_bridges-run_bridge_halves-requires-clause-fresh_front
run_bridges-run_bridge_halves-requires-clause-fresh_front g t c κs within =
    let plant = c.args.run.now.plant.now in
    let side = g.G.RingSide.side in
    let known = g.G.RingSide.known in
    (halves (IsBridgeFresh side known plant)
    c.args.plans.now c.split_at.result.0.now c.split_at.result.1.now c.args.stations.now
    c.split_at_mut-front.result.0.now c.split_at_mut-front.result.1.now
    c.split_at.ensures.by_index.0 c.split_at_mut-front.ensures.value
    (c.split_at.ensures.front_len ∙ sym c.split_at_mut-front.ensures.front_len)
    c.requires.fresh).0

pub run_bridges-run_bridge_halves-requires-clause-fresh_back :
    goal.run_bridges-run_bridge_halves-requires-clause-fresh_back
run_bridges-run_bridge_halves-requires-clause-fresh_back g t c κs within =
    let plant = c.args.run.now.plant.now in
    let side = g.G.RingSide.side in
    let known = g.G.RingSide.known in
    (halves (IsBridgeFresh side known plant)
    c.args.plans.now c.split_at.result.0.now c.split_at.result.1.now c.args.stations.now
    c.split_at_mut-front.result.0.now c.split_at_mut-front.result.1.now
    c.split_at.ensures.by_index.0 c.split_at_mut-front.ensures.value
    (c.split_at.ensures.front_len ∙ sym c.split_at_mut-front.ensures.front_len)
    c.requires.fresh).1

pub run_bridges-returns : goal.run_bridges-returns
run_bridges-returns g t c =
    let plant = c.args.run.now.plant.now in
    let side = g.G.RingSide.side in
    let known = g.G.RingSide.known in
    ran-halves (ends_side side) (IsBridgeFresh side known plant)
    (BridgeHasRun known plant) c.args.plans.now c.split_at.result.0.now
    c.split_at.result.1.now c.args.stations.now _ _ c.run_bridge_halves.new.front
    c.run_bridge_halves.new.back c.split_at.ensures.by_index.0 c.split_at_mut-front.ensures.value
    c.run_bridge_halves.ensures.front c.run_bridge_halves.ensures.back
