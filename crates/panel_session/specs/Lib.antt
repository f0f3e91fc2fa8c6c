pub mod Serving
pub mod Asked
pub mod Scanning
pub mod Bench
pub mod Session
