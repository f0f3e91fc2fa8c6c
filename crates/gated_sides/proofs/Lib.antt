pub mod Numbers
pub mod Stays
pub mod EndStays
