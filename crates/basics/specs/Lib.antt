pub mod Logs
pub mod Shared
pub mod PairLaws
pub mod Tables
pub mod Laws
