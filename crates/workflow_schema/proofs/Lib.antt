pub mod Words
pub mod Rows
pub mod Chains
pub mod PairLists
pub mod TableSets
pub mod Kept
pub mod Built
