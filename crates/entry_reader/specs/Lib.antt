pub mod Fault
pub mod Places
pub mod Plain
pub mod Named
pub mod Reads
pub mod Values
pub mod Told
pub mod Laws
