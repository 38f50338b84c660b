pub mod Positions
pub mod Accepted
pub mod Filled
pub mod InBoxes
