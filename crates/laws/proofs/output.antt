pub mod AcceptedSheet
pub mod ByPosition
pub mod CurveLines
pub mod KeptLines
pub mod KeptRules
pub mod OutputFits
pub mod Refusals
pub mod Swept
