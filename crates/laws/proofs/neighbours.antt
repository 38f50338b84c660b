pub mod Edges
pub mod Refusals
pub mod Rows
