pub mod Clauses
pub mod Encodings
