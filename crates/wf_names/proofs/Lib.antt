pub mod PaddedLists
pub mod NameForms
pub mod Places
pub mod UserBits
pub mod Mixing
pub mod Counts
pub mod NextUsers
pub mod LowBits
