pub mod Bench
pub mod Runs
pub mod Random
pub mod Worked
