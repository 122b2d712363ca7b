pub mod Relations
pub mod Soundness
