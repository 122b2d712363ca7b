pub mod Assign
pub mod Flags
pub mod Rules
pub mod Kept
pub mod Laws
