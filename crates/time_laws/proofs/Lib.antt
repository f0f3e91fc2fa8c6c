pub mod Blocks
pub mod Turn
pub mod HostTurn
pub mod Legal
pub mod Power
