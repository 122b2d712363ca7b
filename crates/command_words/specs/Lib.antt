pub mod Forms
pub mod Finding
pub mod Command
pub mod Laws
