pub mod Booleans
pub mod Lists
