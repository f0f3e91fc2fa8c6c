pub mod Causes
pub mod Memory
pub mod Real
pub mod Streams
pub mod Texts
