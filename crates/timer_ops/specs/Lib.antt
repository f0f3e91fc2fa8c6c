pub mod Timer
pub mod Counter
