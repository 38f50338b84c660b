pub mod Cases
pub mod Doubles
