pub mod Keeping
pub mod Counting
pub mod Passing
pub mod Rows
pub mod Book
