pub mod Cases
pub mod Neighbours
