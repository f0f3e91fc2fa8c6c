pub mod EndCauses
pub mod EndTimes
pub mod Inside
pub mod Joint
pub mod Laws
pub mod BridgePort
