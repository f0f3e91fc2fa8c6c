pub mod Reading
pub mod ReadLines
