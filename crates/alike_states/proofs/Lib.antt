pub mod Hours
pub mod Kept
pub mod Edges
pub mod Tables
