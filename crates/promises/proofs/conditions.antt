pub mod CallChecks
pub mod FirstFaults
pub mod Refusals
