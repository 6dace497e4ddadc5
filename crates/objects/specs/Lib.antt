pub mod Joined
pub mod Fields
pub mod Asked
pub mod Laws
pub mod Examples
