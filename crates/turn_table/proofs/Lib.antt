pub mod Lists
pub mod Views
pub mod Keeps
pub mod Numbers
pub mod Seats
pub mod Ends
