pub mod Entries
mod Members
mod Changes
