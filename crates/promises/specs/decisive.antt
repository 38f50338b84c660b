pub mod Decisive
