pub mod Ahead
pub mod OneOrder
pub mod TurnLaws
pub mod TurnOrder
pub mod Turning
pub mod Crossing
