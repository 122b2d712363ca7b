pub mod Search
pub mod Leaves
pub mod Trials
pub mod Crowds
pub mod Progress
pub mod Finished
pub mod Laws
