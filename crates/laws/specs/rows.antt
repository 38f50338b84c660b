pub mod AmongReadings
pub mod PreviewCases
pub mod Rearranged
pub mod TwoLimits
pub mod Weighted
