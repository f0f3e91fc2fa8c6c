pub mod Exchange
pub mod Drops
pub mod Tests
pub mod Rows
pub mod DropTests
pub mod Feeding
