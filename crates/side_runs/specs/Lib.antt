pub mod Standing
pub mod Brought
pub mod Beside
pub mod Laws
pub mod FieldSearch
