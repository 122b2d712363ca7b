pub mod Counts
pub mod Run
pub mod Serving
pub mod Draws
pub mod Named
pub mod Policy
pub mod Jobs
pub mod TrialLaws
