pub mod Order
pub mod Ranks
pub mod Sequences
pub mod WrongAnswers
