pub mod Stays
pub mod Gives
pub mod Said
pub mod Decided
