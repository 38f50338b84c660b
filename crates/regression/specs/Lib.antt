pub mod Rows
pub mod StepSteps
pub mod Passing
pub mod Travels
pub mod RangesSteps
pub mod Sweep
