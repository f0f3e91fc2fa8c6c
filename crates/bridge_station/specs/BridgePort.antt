-- Words of bridge_port, for those that stand on this crate. All of it is this project's own.
pub use Rattle.end_laws.specs.BridgePort.{AsksBridge, AsksRing, EndGivesUp, HoldsEndTurn, LeavesIf}
