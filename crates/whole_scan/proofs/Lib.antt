pub mod ScanEnds
pub mod ScanSteps
