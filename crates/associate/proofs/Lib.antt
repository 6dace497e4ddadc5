pub mod Outcomes
pub mod Passed
