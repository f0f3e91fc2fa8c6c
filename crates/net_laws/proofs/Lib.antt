mod Sums
pub mod Members
pub mod On
pub mod Apart
pub mod Standing
pub mod Rings
