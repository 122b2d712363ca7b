pub mod Tree
pub mod Codes
pub mod Falls
pub mod Laws
