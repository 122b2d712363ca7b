pub mod Alike
pub mod Plan
pub mod Laws
pub mod Walks
