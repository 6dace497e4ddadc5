pub mod WordBytes
pub mod Lookup
pub mod FourColumns
pub mod Rounds
pub mod Schedule
pub mod Examples
pub mod Permutation
pub mod Chunks
