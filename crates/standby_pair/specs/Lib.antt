pub mod Sending
pub mod Course
pub mod Pair
pub mod Kept
