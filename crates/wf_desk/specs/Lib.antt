pub mod Desks
pub mod Docket
pub mod Keeping
pub mod BatchLaws
pub mod Schedules
pub mod Holding
pub mod Tabled
pub mod Laws
