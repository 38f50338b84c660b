pub mod Demands
pub mod EveryInput
