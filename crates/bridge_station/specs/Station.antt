-- A bridge of a run with the workers of its two ends, as contracts see it. This project's own.
use Rattle.std.specs.Prelude.{ℕ, ◌==◌, Bool, if◌then◌else◌}
use Rattle.bridge_relay.specs.Bridge.{BridgeIs}
use Rattle.end_laws.specs.BridgePort.{BridgeWorkerIs}
use Rattle.end_laws.specs.JointHistory.{BridgeLog}
use Rattle.bridge_station.specs.declared.end_station.EndStation.{EndStation}

-- The worker of an end, and whether the end has left.
pub record EndStationIs : Type 0 where
  pub worker : BridgeWorkerIs
  pub left : Bool

abbrev pub seen_end : EndStation → EndStationIs
seen_end end = record { worker = end.worker; left = end.left }

-- The bridge and its two ends.
pub record BridgeStationIs : Type 0 where
  pub bridge : BridgeIs
  pub left : EndStationIs
  pub right : EndStationIs

-- The end with an address; any other address is taken for the right one.
abbrev pub end_station : ℕ → BridgeStationIs → EndStationIs
end_station side station =
    if side == station.bridge.plan.left then station.left else station.right

abbrev pub end_has_left : ℕ → BridgeStationIs → Bool
end_has_left side station = (end_station side station).left

-- What a bridge noted, under the addresses of its two ends.
abbrev pub log_of_bridge : BridgeStationIs → BridgeLog
log_of_bridge station = record {
  left = station.bridge.plan.left;
  right = station.bridge.plan.right;
  entries = station.bridge.history;
}
