pub mod Cutting
pub mod Pieces
pub mod Values
pub mod Stages
pub mod Texts
