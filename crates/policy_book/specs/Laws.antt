pub mod Facts
pub mod Lean
pub mod Plans
pub mod Refuting
pub mod Shapes
pub mod Twins
