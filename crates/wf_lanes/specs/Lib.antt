pub mod Laws
pub mod TurnSteps
pub mod Turns
pub mod Workers
