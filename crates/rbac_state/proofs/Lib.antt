pub mod Soundness
pub mod Rows
