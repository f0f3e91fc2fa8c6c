pub mod OneExchange
pub mod Runs
pub mod SerialRun
pub mod TurnLaws
