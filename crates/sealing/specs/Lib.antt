pub mod Suites
pub mod Sealing
pub mod Lent
