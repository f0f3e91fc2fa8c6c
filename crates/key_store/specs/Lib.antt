pub mod Words
pub mod Banks
