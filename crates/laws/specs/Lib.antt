pub mod rows
pub mod ranges
pub mod biweight
pub mod turn
pub mod boxes
