pub mod Agreements
pub mod AgreedScans
pub mod AgreedTurns
