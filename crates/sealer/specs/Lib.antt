pub mod KeyBytes
pub mod Sealers
pub mod Lawful
pub mod KeyBytesLemmas
