pub mod File
pub mod View
pub mod Kept
pub mod Replies
