pub mod HostLemmas
pub mod LineLemmas
pub mod ScanLemmas
pub mod FollowLemmas
pub mod LogLemmas
