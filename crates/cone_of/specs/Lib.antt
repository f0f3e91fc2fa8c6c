pub mod Uses
pub mod Cone
pub mod Wanted
pub mod Growing
