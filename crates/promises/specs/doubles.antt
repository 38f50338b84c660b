pub mod Biweight
pub mod Doubles
pub mod Neighbours
pub mod Ranges
