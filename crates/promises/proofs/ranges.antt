pub mod OverRanges
