pub mod Auditor
pub mod Laws
pub mod Keeping
