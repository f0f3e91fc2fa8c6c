pub mod Bytes
pub mod Exceptions
pub mod Quantities
pub mod Spelling
pub mod Reading
pub mod Decoding
pub mod Steps
