pub mod Why
pub mod Policy
pub mod Words
pub mod Runs
