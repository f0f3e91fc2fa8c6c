pub mod Counts
pub mod Worked
pub mod Turn
pub mod Inside
pub mod BridgePort
