pub mod Status
pub mod Cut
pub mod Judged
pub mod Due
pub mod OneDue
pub mod Written
