pub mod GoingOn
pub mod FedTurns
pub mod FedRuns
pub mod FedPlants
pub mod FedStations
pub mod Standings
pub mod SerialLemmas
