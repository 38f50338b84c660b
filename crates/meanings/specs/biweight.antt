pub mod Biweight
pub mod Cases
