pub mod Edits
pub mod Keeping
