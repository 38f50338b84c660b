pub mod Events
pub mod Front
pub mod Pieces
