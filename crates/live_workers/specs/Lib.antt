pub mod Flags
pub mod Scanning
pub mod Talking
pub mod Pairs
pub mod Bridging
pub mod Stations
pub mod TurnLaws
pub mod EndTimes
