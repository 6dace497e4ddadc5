pub mod View
pub mod Heard
pub mod Moved
