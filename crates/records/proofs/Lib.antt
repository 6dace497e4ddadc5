pub mod Places
pub mod Line
