pub mod Marking
pub mod Going
pub mod Ran
pub mod Dealing
pub mod Gathering
pub mod Closing
