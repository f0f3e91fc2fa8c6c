-- Words of bridge_port, for those that stand on this crate. All of it is this project's own.
pub use Rattle.end_times.specs.BridgePort.{own_side, HasGrown, IsHere, RingStands}
pub use Rattle.end_times.specs.BridgePort.{AsksBridge, AsksRing, EndGivesUp, HoldsEndTurn, LeavesIf}
pub use Rattle.end_times.specs.BridgePort.{BridgeWorkerIs, EndTies}
pub use Rattle.end_times.specs.BridgePort.{own_bridge, EndIsReady}
