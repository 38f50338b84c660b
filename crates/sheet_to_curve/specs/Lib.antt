pub mod Ends
pub mod Run
