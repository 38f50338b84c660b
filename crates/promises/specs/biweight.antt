pub mod Biweights
