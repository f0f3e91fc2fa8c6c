pub mod Ends
pub mod Behind
mod Worked
