pub mod Memory
pub mod Outside
