pub mod Following
pub mod Founds
pub mod Answering
pub mod Told
pub mod Remarks
mod Marks
