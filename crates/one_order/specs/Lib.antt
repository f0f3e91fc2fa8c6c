pub mod Merges
pub mod Orders
pub mod Fronts
