pub mod Batches
pub mod Sound
pub mod Cursors
pub mod Exact
pub mod Excludes
pub mod Entering
pub mod Looking
pub mod Parts
