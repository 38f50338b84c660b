pub mod Wrapping
pub mod Positions
pub mod Both
