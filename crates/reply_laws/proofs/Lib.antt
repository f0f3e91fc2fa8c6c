pub mod Tests
pub mod Clear
pub mod Sorts
pub mod Told
pub mod Whole
pub mod Asked
