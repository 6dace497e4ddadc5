pub mod Cuts
pub mod Loads
pub mod Texts
pub mod Values
pub mod Loaded
pub mod Parts
pub mod OnlyWritten
pub mod Law
