pub mod Posts
pub mod Sent
pub mod Ends
pub mod Once
pub mod Homes
pub mod Effects
pub mod Ways
pub mod Causes
pub mod Plain
pub mod Places
pub mod Sides
pub mod Traces
pub mod Success
pub mod Requests
pub mod Hops
pub mod Comes
pub mod Results
pub mod Made
pub mod AtEnd
pub mod Noted
pub mod Offs
pub mod Out
pub mod Own
pub mod OneNetwork
mod Example
mod Journey
mod Owned
mod Echo
