pub mod Served
pub mod Success
pub mod Places
pub mod Answers
pub mod Fits
