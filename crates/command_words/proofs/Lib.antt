pub mod Passing
pub mod Numbers
pub mod Usage
pub mod Plain
pub mod Decimals
pub mod Walking
pub mod NoCommand
