pub mod BetaKernels
pub mod KernelCases
pub mod PublishedRow
pub mod Readings
