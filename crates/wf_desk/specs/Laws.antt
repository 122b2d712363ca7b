pub mod Commits
pub mod Parts
