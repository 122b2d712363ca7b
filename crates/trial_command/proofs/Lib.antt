pub mod Batches
pub mod NameForms
pub mod Growing
pub mod Peers
pub mod FlowFacts
pub mod Ends
