pub mod Walking
pub mod Caused
pub mod Calls
pub mod Steps
pub mod First
pub mod One
