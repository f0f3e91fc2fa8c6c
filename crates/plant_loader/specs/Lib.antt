pub mod Requests
pub mod Hosts
pub mod Rising
pub mod Whole
pub mod Bridges
pub mod Plant
pub mod Accepted
