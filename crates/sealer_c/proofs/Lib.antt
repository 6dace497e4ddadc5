pub mod Long
pub mod Opened
pub mod Fitting
