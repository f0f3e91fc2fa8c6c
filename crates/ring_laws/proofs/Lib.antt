pub mod Rests
pub mod Lists
pub mod Keep
pub mod Steps
pub mod Law
