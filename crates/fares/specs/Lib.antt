pub mod Counter
pub mod View
pub mod Takings
pub mod Replies
pub mod Written
