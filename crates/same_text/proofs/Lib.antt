pub mod Runs
pub mod OneCount
pub mod OneDifference
pub mod Ends
