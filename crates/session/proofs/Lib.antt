pub mod Same
pub mod Moves
pub mod Cut
