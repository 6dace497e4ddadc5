pub mod Constants
pub mod Words
pub mod Compression
