pub mod Telling
pub mod Filed
