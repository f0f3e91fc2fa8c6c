pub mod Standing
pub mod Counting
pub mod Bringing
pub mod Playing
pub mod Alone
pub mod Pairs
