pub mod Feeding
pub mod Standing
pub mod SerialRuns
pub mod CommPort
