pub mod Standing
pub mod EndLaws
pub mod TurnLaws
