pub mod Known
pub mod Rule
pub mod Moves
pub mod Seats
