pub mod Cases
pub mod Decisive
