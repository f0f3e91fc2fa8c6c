pub mod Reaching
pub mod Answers
pub mod Found
pub mod Search
