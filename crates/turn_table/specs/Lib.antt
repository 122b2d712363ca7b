pub mod Table
pub mod Lanes
pub mod Plays
