pub mod CallBlocks
pub mod Collected
pub mod Items
pub mod Lists
pub mod Fails
pub mod Read2
pub mod PowerFails
pub mod OneRing
mod BridgeRead
mod JoinedRings
pub mod TiedLists
