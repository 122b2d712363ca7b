pub mod Cases
pub mod Kept
