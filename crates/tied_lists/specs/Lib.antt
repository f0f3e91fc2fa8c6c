pub mod Words
pub mod Own
pub mod Items
pub mod Tied
pub mod Waits
pub mod Calls
pub mod ReplyLaws
