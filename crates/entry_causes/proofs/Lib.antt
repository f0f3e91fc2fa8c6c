pub mod Ready
pub mod Counts
pub mod Stations
pub mod On
mod Nodes
pub mod Joint
pub mod Worked
