pub mod Bits
pub mod Matrices
pub mod Rule
