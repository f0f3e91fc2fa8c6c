pub mod Merges
pub mod Greedy
pub mod Orders
pub mod Walks
pub mod Fronts
