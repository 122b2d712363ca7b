pub mod Lists
pub mod Deciding
pub mod Editing
pub mod Listing
pub mod Spreading
pub mod Seeing
pub mod Granting
