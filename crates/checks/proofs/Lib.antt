pub mod Decreases
pub mod RowCounts
pub mod CurveSearches
pub mod SweepSearches
pub mod RangesSearches
pub mod WrongAnswers
