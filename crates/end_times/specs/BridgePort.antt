-- Words of bridge_port, for those that stand on this crate. All of it is this project's own.
pub use Rattle.bridge_port.specs.EndParts.{are_some, finish_at_end, post_of, ArePosted, AsksBridge}
pub use Rattle.bridge_port.specs.EndParts.{AsksRing, EndAsksIfDone, EndGivesUp, EndSendsAll}
pub use Rattle.bridge_port.specs.EndParts.{EndServes, EndServesAs, HoldsEndTurn, IsBackEntry}
pub use Rattle.bridge_port.specs.EndParts.{IsForwardEntry, LeavesBridge, LeavesIf}
pub use Rattle.bridge_port.specs.EndTurns.{BridgeWorkerIs, EndTies}
pub use Rattle.bridge_port.specs.Stands.{own_bridge, EndIsReady}
pub use Rattle.bridge_port.specs.CommPort.{own_side, HasGrown, IsHere, RingStands}
