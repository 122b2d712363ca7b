pub mod Streams
pub mod Ending
