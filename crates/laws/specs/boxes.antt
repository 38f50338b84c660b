pub mod Accepted
pub mod Published
pub mod Windows
