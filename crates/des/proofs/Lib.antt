pub mod Choosing
pub mod Mixing
pub mod Turning
pub mod Keys
pub mod Parity
