pub mod Macs
pub mod Agreed
pub mod Commands
pub mod Cut
pub mod Answer
pub mod Heard
