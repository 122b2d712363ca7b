pub mod Deciding
pub mod Listing
pub mod Seeing
pub mod Found
pub mod Granting
