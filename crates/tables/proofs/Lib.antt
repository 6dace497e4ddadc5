pub mod Found
pub mod Smallest
pub mod Kept
pub mod Leaving
pub mod Filtered
