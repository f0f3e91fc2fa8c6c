use Rattle.std.proofs.Common.{ap, sym}
use Rattle.plant_types.specs.declared.net.NetPlan.{NetPlan}
use Rattle.serial_feed.proofs.Standings.{begins, some-net}
use Rattle.serial_feed.proofs.serial.Serial.new.Goals as goal

pub first_net-requires : goal.first_net-requires
first_net-requires c =
    record { some = some-net c.args.plant.now c.requires.plant.sound }

pub invariant_of-result : goal.invariant_of-result
invariant_of-result c =
    let net = c.first_net.result.now in
    record {
      plant = c.args.plant.now;
      scans = c.args.scans;
      stands = (begins c.args.plant.now c.args.scans net.rotations c.in_ok-run.run'
          c.requires.plant c.in_ok-run.ensures
          (sym (ap (λ (n : NetPlan). n.rotations) c.first_net.ensures))).stands;
    }

pub returns : goal.returns
returns c =
    let net = c.first_net.result.now in
    begins c.args.plant.now c.args.scans net.rotations c.in_ok-run.run' c.requires.plant
    c.in_ok-run.ensures (sym (ap (λ (n : NetPlan). n.rotations) c.first_net.ensures))
