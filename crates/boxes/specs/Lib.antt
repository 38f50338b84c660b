pub mod Filling
pub mod Cuts
pub mod Strips
pub mod Cells
pub mod Windows
pub mod Tables
pub mod Pairs
pub mod Rows
