pub mod PowerTests
pub mod TurnTests
