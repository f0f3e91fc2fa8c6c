pub mod OneTurn
pub mod OneRun
pub mod SerialRun
pub mod TurnLaws
