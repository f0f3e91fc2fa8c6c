pub mod Later
pub mod Counters
pub mod Alone
