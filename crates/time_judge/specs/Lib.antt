pub mod Counts
pub mod Reaching
pub mod Judging
