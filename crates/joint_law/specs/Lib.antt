pub mod Agreement
pub mod Judgements
pub mod LawEnds
pub mod OnRings
pub mod Spots
pub mod AllCourses
pub mod AllComplete
