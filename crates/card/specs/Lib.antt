pub mod Refusals
pub mod View
