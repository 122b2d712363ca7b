pub mod Policies
pub mod Stored
pub mod Candidates
pub mod Duties
pub mod Course
pub mod Laws
