pub mod OneScan
pub mod RunLines
pub mod Stopping
pub mod Showing
