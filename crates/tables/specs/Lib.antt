pub mod View
pub mod Changed
pub mod Retained
