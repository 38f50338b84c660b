pub mod Comparison
pub mod Order
