pub mod Cmac
pub mod Checks
pub mod Links
pub mod Shift
pub mod Joins
