pub mod Lists
pub mod Bits
pub mod Linear
pub mod Words
pub mod Merged
