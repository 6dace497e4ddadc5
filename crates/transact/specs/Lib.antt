pub mod Judged
pub mod View
