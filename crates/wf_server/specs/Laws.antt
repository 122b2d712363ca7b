pub mod Resuming
pub mod Serving
