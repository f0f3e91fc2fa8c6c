pub mod Book
pub mod Coded
