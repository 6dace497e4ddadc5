pub mod Digest
pub mod Took
