mod Common
pub mod Trees
pub mod Parts
pub mod Told
pub mod Numbers
pub mod Stranded
pub mod Replies
pub mod Entries
pub mod Texts
pub mod Listed
pub mod Long
pub mod Names
pub mod Short
pub mod Few
pub mod Fitting
