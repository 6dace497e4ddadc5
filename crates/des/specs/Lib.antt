pub mod Feistel
pub mod Schedule
pub mod Des
pub mod Places
pub mod Permutation
pub mod Undo
pub mod Listed
pub mod Binary
