use Rattle.std.proofs.Common.{◌≡◌, ◌≤◌, ◌∙◌, ℕ, suc, List, [], ◌∷◌, length, map, ap, subst, sym}
use Rattle.std.proofs.Common.{refl, arith}
use Rattle.std.specs.List.{All, Contains}
use Rattle.plant_types.specs.declared.plan.ControllerPlan.{ControllerPlan}
use Rattle.plant_types.specs.Plans.{net_numbers}
use Rattle.plant_types.specs.declared.net.NetPlan.{NetPlan}
use Rattle.serial_run.specs.Serial.{Repeats}
use Rattle.serial_run.specs.Stations.{joint_of}
use Rattle.serial_run.proofs.Off.{nobody-away}
use Rattle.serial_run.proofs.Finished.{all-complete, ended-kept}
use Rattle.serial_run.proofs.runs.over.Goals as goal

-- a plant has a network: that of a controller
some-number : (plans : List ControllerPlan) (numbers : List ℕ) → 1 ≤ length plans
    → All (λ (p : ControllerPlan). Contains numbers p.network) plans → 1 ≤ length numbers
some-number [] numbers some all = absurd (omega (arith, some))
some-number (p ∷ plans) numbers some all =
    let there = all 0 p (omega arith) in
    let low = there.1 in
    omega (arith, low)

length-numbers : (nets : List NetPlan) → length (map (λ (net : NetPlan). net.number) nets)
    ≡ length nets
length-numbers [] = refl
length-numbers (net ∷ nets) = ap suc (length-numbers nets)

pub first_net-requires : goal.first_net-requires
first_net-requires c =
    let plant = c.args.plant.now in
    let sound = c.requires.plant.sound in
    let some = some-number plant.controllers (net_numbers plant) sound.count.from
    sound.controllers_there in
    let same = length-numbers plant.nets in
    record { some = omega (arith, some, same) }

pub repeat-requires-clause-stand : goal.repeat-requires-clause-stand
repeat-requires-clause-stand c =
    record { plant = c.args.plant.now; scans = c.args.scans; all = c.in_ok-run.ensures.stand }

pub repeat-requires-clause-between : goal.repeat-requires-clause-between
repeat-requires-clause-between c = c.in_ok-run.ensures.between

pub repeat-requires-clause-off : goal.repeat-requires-clause-off
repeat-requires-clause-off c =
    nobody-away c.args.plant.now c.args.scans c.in_ok-run.run' c.in_ok-run.ensures.stand
    c.in_ok-run.ensures.here

pub finish-requires-clause-off : goal.finish-requires-clause-off
finish-requires-clause-off c = c.in_ok-repeat.ensures.off

pub finish-requires-clause-stand : goal.finish-requires-clause-stand
finish-requires-clause-stand c = record {
  plant = c.args.plant.now;
  scans = c.args.scans;
  all = c.in_ok-repeat.ensures.did.stand c.args.plant.now c.args.scans c.in_ok-run.ensures.stand;
}

pub returns : goal.returns
returns c =
    let plant = c.args.plant.now in
    let scans = c.args.scans in
    let start = c.in_ok-run.ensures in
    let repeated = c.in_ok-repeat.ensures in
    let finished = c.in_ok-finish.ensures in
    let last = c.finish.new.self in
    let repeats = joint_of c.repeat.new.self in
    let stands = repeated.did.stand plant scans start.stand in
    let stand = finished.did.stand plant scans stands in
    let ended = ended-kept c.repeat.new.self last finished.scans ∙ repeated.ended in
    record {
      stand = stand;
      serial = record {
        ended_joint = repeats;
        repeats = subst (λ first. Repeats plant scans first repeats) start.nothing
            (repeated.did.made plant scans start.stand
            (sym (ap (λ (net : NetPlan). net.rotations) c.first_net.ensures)));
        finishes = finished.did.made plant scans stands;
      };
      complete = all-complete c.controllers_complete.ensures c.hosts_complete.ensures plant scans
          last stand finished.left ended finished.off finished.visited;
    }
