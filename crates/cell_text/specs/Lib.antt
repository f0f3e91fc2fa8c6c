pub mod Steps
pub mod Words
pub mod Numbers
pub mod Names
pub mod Slots
pub mod Pieces
pub mod Texts
