pub mod Words
pub mod Memory
