pub mod Documents
pub mod RisingLemmas
pub mod HostLemmas
pub mod BridgeLemmas
pub mod WholeLemmas
pub mod LoadedLemmas
