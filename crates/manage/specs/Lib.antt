pub mod Told
pub mod View
