pub mod Field
pub mod Scan
pub mod Alike
pub mod Told
pub mod Played
pub mod ControllerCore
pub mod AlikeStates
