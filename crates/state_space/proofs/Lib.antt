pub mod Places
pub mod Paths
pub mod Keys
pub mod Steps
pub mod Trails
pub mod Ends
