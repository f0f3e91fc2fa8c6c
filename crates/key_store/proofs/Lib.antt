pub mod Cutting
