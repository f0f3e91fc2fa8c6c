pub mod Sides
pub mod EndTurns
pub mod EndParts
pub mod EndSteps
pub mod Stands
pub mod CommPort
