mod Small
mod Example
mod BridgedPlants
