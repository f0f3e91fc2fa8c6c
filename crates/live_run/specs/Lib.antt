pub mod Homes
pub mod Dealing
pub mod Ends
pub mod Closing
pub mod Runs
