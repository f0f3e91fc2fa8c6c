pub mod Causes
pub mod InTime
pub mod Joint
