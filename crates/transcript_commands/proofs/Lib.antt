mod Common
pub mod Files
pub mod Stands
pub mod Taken
pub mod Rests
pub mod WholeLines
pub mod LinesTaken
pub mod LongLines
pub mod GoingOn
pub mod Passing
pub mod Loaded
pub mod Runs
pub mod Legal
pub mod Endings
