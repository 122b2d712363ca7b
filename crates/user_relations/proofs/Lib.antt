pub mod Numbered
pub mod Named
pub mod Sound
pub mod RowBits
pub mod RowSets
pub mod Listing
pub mod RowsInPlace
