pub mod Marks
pub mod Cells
pub mod Sides
pub mod Workers
pub mod Runs
pub mod Crews
