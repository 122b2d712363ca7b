pub mod FirstLines
mod Going
pub mod CutLaws
mod WholeLines
mod Readings
pub mod Adding
pub mod Order
mod Named
mod CutUp
mod Batches
mod LineJobs
pub mod ReadingLaws
