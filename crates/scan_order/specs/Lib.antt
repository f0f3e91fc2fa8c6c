pub mod Power
pub mod Due
