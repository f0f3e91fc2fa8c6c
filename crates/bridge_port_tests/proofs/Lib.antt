pub mod Ready
pub mod Starts
