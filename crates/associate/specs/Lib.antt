pub mod Checks
pub mod Said
pub mod Outcome
pub mod Steps
