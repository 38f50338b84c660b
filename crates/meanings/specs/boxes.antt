pub mod Lent
pub mod Boxes
pub mod Cases
