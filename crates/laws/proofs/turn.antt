pub mod Motions
