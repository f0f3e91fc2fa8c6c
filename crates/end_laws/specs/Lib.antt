pub mod EndKeeps
pub mod Laws
pub mod EndTimes
pub mod BridgePort
pub mod JointHistory
pub mod TurnLaws
