pub mod Lines
pub mod Words
pub mod Plants
pub mod Places
pub mod Wires
pub mod Tested
