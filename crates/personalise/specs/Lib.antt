pub mod Lines
pub mod Limits
pub mod Load
pub mod Written
pub mod Refusals
pub mod Left
pub mod Says
