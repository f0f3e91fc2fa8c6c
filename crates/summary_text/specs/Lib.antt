pub mod Summary
pub mod Coils
