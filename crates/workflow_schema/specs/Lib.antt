pub mod Flows
pub mod Tables
pub mod Stored
pub mod Laws
