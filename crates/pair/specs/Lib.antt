pub mod View
pub mod Lent
pub mod Followed
