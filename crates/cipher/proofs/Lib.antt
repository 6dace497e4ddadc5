pub mod Chain
pub mod Undo
