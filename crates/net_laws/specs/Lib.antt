pub mod Rings
pub mod Standing
pub mod JointHistory
pub mod TiedLists
