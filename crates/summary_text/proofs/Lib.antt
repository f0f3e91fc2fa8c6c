pub mod CoilSteps
pub mod RingCounts
