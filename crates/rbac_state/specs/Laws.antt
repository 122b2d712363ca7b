pub mod Rosters
