pub mod LimitSearch
pub mod DecisiveSearch
pub mod PairSearch
pub mod Nearest
pub mod Rows
pub mod Table
