pub mod Counts
pub mod Passed
pub mod Keeping
pub mod NextOpen
pub mod Parts
pub mod Places
pub mod Replanning
