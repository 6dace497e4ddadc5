pub mod Hmac
pub mod Keyed
pub mod Expansion
