pub mod Keeping
pub mod Searches
pub mod Unhurt
