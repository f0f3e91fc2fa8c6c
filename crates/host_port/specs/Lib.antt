pub mod Calls
pub mod Legal
pub mod Host
pub mod Following
pub mod Kept
pub mod Laws
