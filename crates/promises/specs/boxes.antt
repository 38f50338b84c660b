pub mod Filled
pub mod InBoxes
