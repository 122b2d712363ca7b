pub mod Jobs
pub mod Requests
