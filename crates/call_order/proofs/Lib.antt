pub mod Behind
pub mod Counts
pub mod Readings
pub mod Ties
pub mod Due
pub mod Names
pub mod Targets
pub mod Worked
