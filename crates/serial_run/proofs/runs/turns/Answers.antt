use Rattle.std.proofs.Common.{take, sym, subst}
use Rattle.std.proofs.lemmas.List.{take_more}
use Rattle.joint_history.specs.JointLaws.{IsJoint, IsLegalJoint}
use Rattle.route_laws.specs.Effects.{EffectsAreRight}
use Rattle.bridge_station.specs.TurnLaws.{IsInOneOrder}
use Rattle.bridge_station.specs.EndTimes.{AreBridgesInTime}
use Rattle.serial_run.specs.Turns.{MakesTurns, nothing_made}
use Rattle.serial_run.specs.Stations.{joint_of}
use Rattle.serial_run.proofs.Laws.{one-more-turn, stand-bridges-in-time, stand-in-time}
use Rattle.serial_run.proofs.Laws.{stand-joint, stand-legal}
use Rattle.serial_run.proofs.runs.turns.Goals as goal

pub loop-turn-preserved : goal.loop-turn-preserved
loop-turn-preserved c =
    let plant = c.args.plant.now in
    let scans = c.args.scans in
    let at = c.loop-turn.turn-index in
    let did = c.in_ok-turn.ensures in
    let stand = c.loop-turn.invariant.stand in
    record {
      stand = did.stand plant scans stand;
      made = subst (λ turns. MakesTurns plant scans turns (nothing_made plant)
          (joint_of c.turn.new.self))
          (sym (take_more c.args.order.now at _ c.loop-turn-test.true))
          (one-more-turn plant scans (take at c.args.order.now) _ (nothing_made plant)
          (joint_of c.loop-turn.run) (joint_of c.turn.new.self)
          c.loop-turn.invariant.made (did.made plant scans stand));
    }

pub returns-clause-legal : goal.returns-clause-legal
returns-clause-legal c =
    let plant = c.args.plant.now in
    let scans = c.args.scans in
    subst (IsLegalJoint plant scans) (sym c.in_ok-noted.ensures.joint)
    (stand-legal plant scans c.loop-turn.run c.loop-turn.invariant.stand)

pub returns-clause-joint : goal.returns-clause-joint
returns-clause-joint c =
    subst IsJoint (sym c.in_ok-noted.ensures.joint)
    (stand-joint c.args.plant.now c.args.scans c.loop-turn.run c.loop-turn.invariant.stand)

pub returns-clause-effects : goal.returns-clause-effects
returns-clause-effects c =
    let plant = c.args.plant.now in
    let scans = c.args.scans in
    let run = c.loop-turn.run in
    let stand = c.loop-turn.invariant.stand in
    subst EffectsAreRight (sym c.in_ok-noted.ensures.joint)
    (c.effects_are_right.ensures plant scans (joint_of run) c.requires.plant.sound
    (stand-legal plant scans run stand) (stand-joint plant scans run stand))

pub returns-clause-bridges_in_time : goal.returns-clause-bridges_in_time
returns-clause-bridges_in_time c =
    subst AreBridgesInTime (sym c.in_ok-noted.ensures.joint)
    (stand-bridges-in-time c.args.plant.now c.args.scans c.loop-turn.run
    c.loop-turn.invariant.stand)

pub returns-clause-in_time : goal.returns-clause-in_time
returns-clause-in_time c =
    let plant = c.args.plant.now in
    let scans = c.args.scans in
    let run = c.loop-turn.run in
    let stand = c.loop-turn.invariant.stand in
    subst (IsInOneOrder plant) (sym c.in_ok-noted.ensures.joint)
    (c.joint_is_in_one_order.ensures plant scans (joint_of run) c.requires.plant.sound
    (stand-legal plant scans run stand) (stand-in-time plant scans run stand))
