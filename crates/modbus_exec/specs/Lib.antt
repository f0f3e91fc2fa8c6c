pub mod Runs
pub mod Answer
pub mod Executing
pub mod Laws
