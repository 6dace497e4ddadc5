pub mod Reply
pub mod Blocks
pub mod Joining
pub mod Back
pub mod Examples
