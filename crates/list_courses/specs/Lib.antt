pub mod Completing
pub mod Leaving
pub mod Courses
pub mod Ends
pub mod RingFollowing
