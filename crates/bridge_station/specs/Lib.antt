pub mod Station
pub mod Stands
pub mod Laws
pub mod EndLaws
pub mod EndTimes
pub mod BridgePort
pub mod TurnLaws
