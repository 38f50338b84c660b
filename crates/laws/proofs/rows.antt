pub mod AmongReadings
pub mod Previews
pub mod Rearranged
pub mod RowCases
pub mod TwoLimits
pub mod Weighted
pub mod WrongRows
