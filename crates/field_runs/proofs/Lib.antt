pub mod Hours
pub mod Settling
pub mod Runs
pub mod Scripts
pub mod Playing
