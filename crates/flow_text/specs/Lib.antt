pub mod Solved
pub mod Lines
pub mod Window
pub mod Power
