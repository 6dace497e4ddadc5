pub mod Permutes
pub mod Triple
pub mod Cbc
pub mod Permuting
pub mod Links
