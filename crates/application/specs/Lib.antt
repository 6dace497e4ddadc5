pub mod Acts
pub mod Commands
