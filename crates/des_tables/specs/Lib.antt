pub mod Bits
pub mod Tables
pub mod Boxes
pub mod Words
