pub mod Cases
pub mod Crossing
pub mod Threshold
