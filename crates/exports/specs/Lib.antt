pub mod Answers
pub mod Positions
pub mod Lists
pub mod Partings
pub mod KindNumbers
pub mod Version
