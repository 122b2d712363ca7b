pub mod Padded
pub mod Names
pub mod Table
pub mod States
pub mod UserSets
pub mod Words
