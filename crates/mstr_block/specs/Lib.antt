pub mod Call
pub mod Operations
pub mod Control
pub mod Table
pub mod Solve
pub mod Running
pub mod Laws
