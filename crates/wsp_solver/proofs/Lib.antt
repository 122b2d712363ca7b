pub mod Crews
pub mod Members
pub mod Pushes
pub mod Searching
pub mod Trimming
pub mod TwinUsers
mod Nexts
