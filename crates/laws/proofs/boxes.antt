pub mod Cells
pub mod Corners
pub mod Published
pub mod Refusals
pub mod Strips
pub mod Sums
pub mod WindowCases
