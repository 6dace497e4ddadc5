pub mod Digests
pub mod Padding
pub mod Taking
