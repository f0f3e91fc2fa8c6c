pub mod EndCounts
pub mod Fitting
pub mod Progress
pub mod RingSteps
pub mod Stands
pub mod Rows
pub mod FollowSteps
pub mod Due
