pub mod MemShelf
pub mod Laws
