pub mod Machine
pub mod Legal
pub mod Bridge
pub mod Kept
pub mod Laws
pub mod Following
