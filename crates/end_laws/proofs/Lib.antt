pub mod Rows
pub mod Others
pub mod Ended
pub mod Complete
pub mod Silent
pub mod Parts
pub mod Turn
mod Spent
pub mod Worked
pub mod TurnLaws
pub mod BridgePort
