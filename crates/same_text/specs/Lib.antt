pub mod Texts
pub mod OneAnswer
pub mod Due
