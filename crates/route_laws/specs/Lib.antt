pub mod Ways
pub mod Ends
pub mod Own
pub mod Effects
pub mod Laws
