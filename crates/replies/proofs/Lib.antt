pub mod Joined
pub mod Cut
