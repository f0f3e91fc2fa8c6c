pub mod Plans
pub mod Example
pub mod Bridged
