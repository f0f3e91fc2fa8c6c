pub mod KeepsOn
pub mod Laws
pub mod EntryCauses
pub mod CommPort
