use Rattle.std.proofs.Common.{false, ap}
use Rattle.end_laws.specs.BridgePort.{BridgeWorkerIs}
use Rattle.bridge_station.proofs.Standing.{bridge-starts}
use Rattle.bridge_station.specs.Station.{BridgeStationIs, EndStationIs}
use Rattle.bridge_station.proofs.station.BridgeStation.new.Goals as goal

pub returns : goal.returns
returns c =
    let plan = c.args.plan.now in
    let s : BridgeStationIs = record {
      bridge = c.in_ok-bridge.bridge;
      left = record { worker = c.in_ok-left.left; left = false };
      right = record { worker = c.in_ok-right.right; left = false };
    } in
    let of : BridgeWorkerIs → EndStationIs = λ w. record { worker = w; left = false } in
    bridge-starts plan c.args.left_net.now c.args.right_net.now c.args.budget s c.requires.plan
    c.requires.left_net c.requires.left c.requires.right_net c.requires.right
    c.in_ok-bridge.ensures (ap of c.in_ok-left.ensures) (ap of c.in_ok-right.ensures)
