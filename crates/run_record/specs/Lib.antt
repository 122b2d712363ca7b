pub mod Fault
pub mod Outside
pub mod Report
pub mod Laws
